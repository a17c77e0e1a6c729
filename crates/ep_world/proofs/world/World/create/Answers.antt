use Rattle.std.proofs.Common.{refl, sym, ◌∙◌, subst, None}
use Rattle.ep_history.specs.Entries.Answer.{BirthAnswer}
use Rattle.ep_history.specs.Entries.Entry.{Create}
use Rattle.ep_pad.specs.Standing.{replied}
use Rattle.ep_world.specs.Standing.{IsAnswered}
use Rattle.ep_world.proofs.ByServer.{create-refused, created}
use Rattle.ep_world.proofs.Calls.{answered}
use Rattle.ep_event.specs.declared.event.Event.TheVariants as told
use Rattle.ep_event.specs.declared.shown.Verb.TheVariants as verb
use Rattle.ep_world.proofs.Counting.{err-counts, refused-ends}
use Rattle.ep_world.proofs.world.World.create.Goals as goal

pub returns-in_ok-first_change-in-Ok-clause-plays : goal.returns-in_ok-first_change-in-Ok-clause-plays
returns-in_ok-first_change-in-Ok-clause-plays g c = λ alone rs w ks run s.
    let t = sym c.well_formed-2.ensures ∙ c.if-not-well_formed.false in
    let a = answered g.D.Disk.told g.D.Device.failures g.D.Disk.stops_alone alone rs c.args.self.now.machine c.create.new.self w.pad (Create c.args.text.now c.args.now) (replied BirthAnswer c.create.result) s.machine (λ st k x. let y = c.create.ensures.steps st k x in (y.0, y.1, y.2, y.4.alone)) in
    created g.D.Disk.told g.D.Device.failures g.D.Disk.stops_alone alone rs c.args.self.now _ w ks c.args.now c.args.text.now _ c.in_ok-first_change-in-Ok.field-0 (c.in_ok-first_change-in-Ok.ensures c.args.now) t s
    (subst (λ r. IsAnswered g.D.Disk.told g.D.Device.failures g.D.Disk.stops_alone alone rs c.args.self.now.machine w.pad (Create c.args.text.now c.args.now) (replied BirthAnswer r) c.create.new.self) c.in-Ok.is a) refl refl

pub returns-in-Err-clause-plays : goal.returns-in-Err-clause-plays
returns-in-Err-clause-plays g c = λ alone rs w ks run s.
    let t = sym c.well_formed-2.ensures ∙ c.if-not-well_formed.false in
    let a = answered g.D.Disk.told g.D.Device.failures g.D.Disk.stops_alone alone rs c.args.self.now.machine c.create.new.self w.pad (Create c.args.text.now c.args.now) (replied BirthAnswer c.create.result) s.machine (λ st k x. let y = c.create.ensures.steps st k x in (y.0, y.1, y.2, y.4.alone)) in
    rw c.refused.ensures
    (create-refused g.D.Disk.told g.D.Device.failures g.D.Disk.stops_alone alone rs c.args.self.now _ w ks c.args.now c.args.text.now c.in-Err.bad t s
    (subst (λ r. IsAnswered g.D.Disk.told g.D.Device.failures g.D.Disk.stops_alone alone rs c.args.self.now.machine w.pad (Create c.args.text.now c.args.now) (replied BirthAnswer r) c.create.new.self) c.in-Err.is a) refl refl)

pub returns-in-Err-clause-ends : goal.returns-in-Err-clause-ends
returns-in-Err-clause-ends g c = λ alone rs w ks run s.
    rw c.refused.ensures
    (refused-ends alone (told.Create c.args.text.now) _ _ verb.Create None c.in-Err.bad
    (err-counts g.D.Disk.told g.D.Device.failures g.D.Disk.stops_alone alone rs c.args.self.now.machine c.create.new.self w.pad (Create c.args.text.now c.args.now) BirthAnswer c.create.result c.in-Err.bad s.machine
    (λ st k x. let y = c.create.ensures.steps st k x in (y.0, y.1, y.2, y.4.alone)) c.in-Err.is))
