use Rattle.std.proofs.Common.{refl, sym, ◌∙◌, subst, None}
use Rattle.ep_history.specs.Entries.Answer.{CommitAnswer}
use Rattle.ep_history.specs.Entries.Entry.{SetText}
use Rattle.ep_step.specs.Telling.{told_by}
use Rattle.ep_pad.specs.Standing.{replied}
use Rattle.ep_world.specs.Standing.{IsAnswered}
use Rattle.ep_world.proofs.ByServer.{set-refused, text-set}
use Rattle.ep_world.proofs.Calls.{answered}
use Rattle.ep_event.specs.declared.event.Event.TheVariants as told
use Rattle.ep_event.specs.declared.shown.Verb.TheVariants as verb
use Rattle.ep_world.proofs.Counting.{err-counts, refused-ends}
use Rattle.ep_world.proofs.world.World.set_text.Goals as goal

pub returns-in-Ok-clause-plays : goal.returns-in-Ok-clause-plays
returns-in-Ok-clause-plays g c = λ alone rs w ks run s.
    let t = sym c.well_formed-2.ensures ∙ c.if-not-well_formed.false in
    let a = answered g.D.Disk.told g.D.Device.failures g.D.Disk.stops_alone alone rs c.args.self.now.machine c.set_text.new.self w.pad (SetText c.args.text.now c.args.now) (replied (λ x. CommitAnswer (told_by x)) c.set_text.result) s.machine (λ st k x. let y = c.set_text.ensures.steps st k x in (y.0, y.1, y.2, y.4.alone)) in
    text-set g.D.Disk.told g.D.Device.failures g.D.Disk.stops_alone alone rs c.args.self.now _ w ks c.args.now c.args.text.now _ t s
    (subst (λ r. IsAnswered g.D.Disk.told g.D.Device.failures g.D.Disk.stops_alone alone rs c.args.self.now.machine w.pad (SetText c.args.text.now c.args.now) (replied (λ x. CommitAnswer (told_by x)) r) c.set_text.new.self) c.in-Ok.is a) refl refl

pub returns-in-Err-clause-plays : goal.returns-in-Err-clause-plays
returns-in-Err-clause-plays g c = λ alone rs w ks run s.
    let t = sym c.well_formed-2.ensures ∙ c.if-not-well_formed.false in
    let a = answered g.D.Disk.told g.D.Device.failures g.D.Disk.stops_alone alone rs c.args.self.now.machine c.set_text.new.self w.pad (SetText c.args.text.now c.args.now) (replied (λ x. CommitAnswer (told_by x)) c.set_text.result) s.machine (λ st k x. let y = c.set_text.ensures.steps st k x in (y.0, y.1, y.2, y.4.alone)) in
    rw c.refused.ensures
    (set-refused g.D.Disk.told g.D.Device.failures g.D.Disk.stops_alone alone rs c.args.self.now _ w ks c.args.now c.args.text.now c.in-Err.bad t s
    (subst (λ r. IsAnswered g.D.Disk.told g.D.Device.failures g.D.Disk.stops_alone alone rs c.args.self.now.machine w.pad (SetText c.args.text.now c.args.now) (replied (λ x. CommitAnswer (told_by x)) r) c.set_text.new.self) c.in-Err.is a) refl refl)

pub returns-in-Err-clause-ends : goal.returns-in-Err-clause-ends
returns-in-Err-clause-ends g c = λ alone rs w ks run s.
    rw c.refused.ensures
    (refused-ends alone (told.SetText c.args.text.now) _ _ verb.Set None c.in-Err.bad
    (err-counts g.D.Disk.told g.D.Device.failures g.D.Disk.stops_alone alone rs c.args.self.now.machine c.set_text.new.self w.pad (SetText c.args.text.now c.args.now) (λ x. CommitAnswer (told_by x)) c.set_text.result c.in-Err.bad s.machine
    (λ st k x. let y = c.set_text.ensures.steps st k x in (y.0, y.1, y.2, y.4.alone)) c.in-Err.is))
