use Rattle.std.proofs.Common.{refl, Some, rules}
use Rattle.ep_world.specs.declared.world.World.{World}
use Rattle.ep_world.proofs.Crashes.{starts-at, stop-comes}
use Rattle.ep_history.specs.Pad.{reopened}
use Rattle.ep_schedule.specs.Headline.{next_up}
use Rattle.ep_world.specs.Stopping.{broken_by, journal_broken}
use Rattle.ep_event.specs.declared.event.Event.TheVariants as told
use Rattle.ep_world.proofs.Counting.{as-err, counts-ends, counts-from}
use Rattle.ep_world.proofs.Ending.{first-ends, first-of, stop-ends}
use Rattle.ep_world.proofs.world.World.stop.Goals as goal

pub returns-clause-plays : goal.returns-clause-plays
returns-clause-plays g c = λ alone rs w ks r s.
    let old = c.args.self.now in
    let new : World g.row.D.Denot = record { alloc = old.alloc; id = old.id; machine = c.opening.new.machine; actors = c.cut_off.new.self } in
    stop-comes g.D.Disk.told g.D.Device.failures g.D.Disk.stops_alone alone rs old new c.stop_take.new.machine c.first_sent.new.actors w ks c.args.now c.args.at c.in_ok-first.first c.opening.result
    s c.in_ok-first.ensures (c.in_ok-stop_take.ensures.breaks alone) (c.opening.ensures.shows alone) refl c.cut_off.ensures

pub returns-in_err-first-clause-ends : goal.returns-in_err-first-clause-ends
returns-in_err-first-clause-ends g c = λ alone rs w ks r s.
    let b = c.in_err-first.field-0.0 in
    as-err _ _ c.from_residual.result b (search rules)
    (first-ends g.D.Disk.told g.D.Device.failures g.D.Disk.stops_alone alone c.args.at _ _ c.args.self.now.actors c.first_sent.new.actors b c.in_err-first.ensures)

pub returns-in_err-stop_take-clause-ends : goal.returns-in_err-stop_take-clause-ends
returns-in_err-stop_take-clause-ends g c = λ alone rs w ks r s.
    let b = c.in_err-stop_take.field-0.0 in
    as-err _ _ c.from_residual-in_err-stop_take.result b (search rules)
    (stop-ends g.D.Disk.told g.D.Device.failures g.D.Disk.stops_alone alone c.args.at _ _ b (c.in_err-stop_take.ensures.counts alone rs w.pad s.machine))

pub returns-clause-ends : goal.returns-clause-ends
returns-clause-ends g c = λ alone rs w ks r s.
    let message = next_up (w.actors c.args.at.name) in
    let first = first-of g.D.Disk.told g.D.Device.failures g.D.Disk.stops_alone alone rs c.args.self.now w ks c.args.at.name c.in_ok-first.first c.first_sent.new.actors s c.in_ok-first.ensures in
    let off = c.in_ok-stop_take.ensures.breaks alone rs w.pad message first s.machine in
    let m = starts-at g.D.Disk.told g.D.Device.failures g.D.Disk.stops_alone alone c.stop_take.new.machine (journal_broken rs w.pad c.args.now message off.0) (broken_by w.pad c.args.now message off.0) off.1 in
    counts-ends alone (told.Stop (Some c.args.at)) _ _ c.opening.result
    (counts-from (g.D.Device.failures c.args.self.now.machine.disk) (g.D.Device.failures c.stop_take.new.machine.disk) _ c.opening.result
    (c.in_ok-stop_take.ensures.counts alone rs w.pad s.machine) (c.opening.ensures.counts alone m.0 (reopened (broken_by w.pad c.args.now message off.0)) m.1))
