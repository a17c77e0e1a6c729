use Rattle.std.proofs.Common.{refl, None, rules}
use Rattle.ep_history.specs.Pad.{reopened}
use Rattle.ep_world.specs.declared.world.World.{World}
use Rattle.ep_world.proofs.Crashes.{crash-comes, starts-at}
use Rattle.ep_event.specs.declared.event.Event.TheVariants as told
use Rattle.ep_world.proofs.Counting.{as-err, caused-ends, counts-ends, counts-from}
use Rattle.ep_world.proofs.world.World.crash.Goals as goal

pub returns-clause-plays : goal.returns-clause-plays
returns-clause-plays g c = λ alone rs w ks r s.
    let old = c.args.self.now in
    let new : World g.row.D.Denot = record { alloc = old.alloc; id = old.id; machine = c.opening.new.machine; actors = c.cut_off.new.self } in
    crash-comes g.D.Disk.told g.D.Device.failures g.D.Disk.stops_alone alone rs old new c.start_again.new.machine w ks c.args.now c.opening.result s (c.in_ok-start_again.ensures.starts alone rs w.pad s.machine) (c.opening.ensures.shows alone) refl c.cut_off.ensures

pub returns-in_err-start_again-clause-ends : goal.returns-in_err-start_again-clause-ends
returns-in_err-start_again-clause-ends g c = λ alone rs w ks r s.
    let b = c.in_err-start_again.field-0.0 in
    as-err _ _ c.from_residual.result b (search rules) (caused-ends alone (told.Stop None) _ _ b (c.in_err-start_again.ensures.counts alone rs w.pad s.machine))

pub returns-clause-ends : goal.returns-clause-ends
returns-clause-ends g c = λ alone rs w ks r s.
    let a = s.machine in
    let m = starts-at g.D.Disk.told g.D.Device.failures g.D.Disk.stops_alone alone c.start_again.new.machine rs w.pad (c.in_ok-start_again.ensures.starts alone rs w.pad a) in
    counts-ends alone (told.Stop None) _ _ c.opening.result
    (counts-from (g.D.Device.failures c.args.self.now.machine.disk) (g.D.Device.failures c.start_again.new.machine.disk) _ c.opening.result (c.in_ok-start_again.ensures.counts alone rs w.pad a)
    (c.opening.ensures.counts alone m.0 (reopened w.pad) m.1))
