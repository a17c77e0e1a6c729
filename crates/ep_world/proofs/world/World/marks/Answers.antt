use Rattle.std.proofs.Common.{◌∙◌, refl, rules, subst}
use Rattle.ep_event.specs.declared.shown.Verb.TheVariants as verb
use Rattle.ep_world.specs.declared.world.World.{World}
use Rattle.ep_world.specs.Reading.{IsTop}
use Rattle.ep_world.specs.Shows.{shows_marks}
use Rattle.ep_world.proofs.Showing.{gone-reads, head-reads, reads-shut, reads-stands}
use Rattle.ep_world.proofs.Counting.{as-err}
use Rattle.ep_world.proofs.world.World.marks.Goals as goal

pub returns-in-There : goal.returns-in-There
returns-in-There g c = λ alone rs w ks s.
    let h = c.in_ok-rev.ensures.told alone rs w.pad s.machine in
    let old = c.args.self.now in
    let new : World g.row.D.Denot = record { alloc = old.alloc; id = old.id; machine = c.head.new.machine; actors = old.actors } in (
      (head-reads g.D.Disk.told g.D.Device.failures g.D.Disk.stops_alone alone rs w c.in-There.rev c.in-There.doc (subst (IsTop rs w.pad) c.in-There.is h.0)).1,
      reads-stands g.D.Disk.told g.D.Device.failures g.D.Disk.stops_alone alone rs old new w ks s h.1 refl refl,
    )

pub returns-in-Gone : goal.returns-in-Gone
returns-in-Gone g c = λ alone rs w ks s.
    let h = c.in_ok-rev.ensures.told alone rs w.pad s.machine in
    let old = c.args.self.now in
    let new : World g.row.D.Denot = record { alloc = old.alloc; id = old.id; machine = c.head.new.machine; actors = old.actors } in (
      (gone-reads g.D.Disk.told g.D.Device.failures g.D.Disk.stops_alone alone rs w (subst (IsTop rs w.pad) c.in-Gone.is h.0)).1,
      reads-stands g.D.Disk.told g.D.Device.failures g.D.Disk.stops_alone alone rs old new w ks s h.1 refl refl,
    )

pub returns-in-Shut : goal.returns-in-Shut
returns-in-Shut g c = λ alone rs w ks s.
    let h = c.in_ok-rev.ensures.told alone rs w.pad s.machine in
    let old = c.args.self.now in
    let new : World g.row.D.Denot = record { alloc = old.alloc; id = old.id; machine = c.head.new.machine; actors = old.actors } in (
      c.full.ensures ∙ reads-shut g.D.Disk.told g.D.Device.failures g.D.Disk.stops_alone alone rs w.pad verb.Marks (shows_marks w.pad) c.in-Shut.bytes (subst (IsTop rs w.pad) c.in-Shut.is h.0),
      reads-stands g.D.Disk.told g.D.Device.failures g.D.Disk.stops_alone alone rs old new w ks s h.1 refl refl,
    )

pub returns-in_err-rev : goal.returns-in_err-rev
returns-in_err-rev g c = λ alone rs w ks s.
    let b = c.in_err-rev.field-0.0 in
    as-err _ _ c.from_residual.result b (search rules) (c.in_err-rev.ensures.failed, c.in_err-rev.ensures.counts alone rs w.pad s.machine)
