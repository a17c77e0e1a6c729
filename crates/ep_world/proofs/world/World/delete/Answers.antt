use Rattle.std.proofs.Common.{refl, subst, None}
use Rattle.ep_history.specs.Entries.Answer.{Done}
use Rattle.ep_history.specs.Entries.Entry.{Delete}
use Rattle.ep_pad.specs.Standing.{replied}
use Rattle.ep_world.specs.Standing.{IsAnswered}
use Rattle.ep_world.proofs.ByServer.{delete-refused, deleted}
use Rattle.ep_world.proofs.Calls.{answered}
use Rattle.ep_event.specs.declared.event.Event.TheVariants as told
use Rattle.ep_event.specs.declared.shown.Verb.TheVariants as verb
use Rattle.ep_world.proofs.Counting.{err-counts, refused-ends}
use Rattle.ep_world.proofs.world.World.delete.Goals as goal

pub returns-in-Ok-clause-plays : goal.returns-in-Ok-clause-plays
returns-in-Ok-clause-plays g c = λ alone rs w ks run s.
    let a = answered g.D.Disk.told g.D.Device.failures g.D.Disk.stops_alone alone rs c.args.self.now.machine c.delete.new.self w.pad (Delete c.args.now) (replied (λ _. Done) c.delete.result) s.machine (λ st k x. let y = c.delete.ensures.steps st k x in (y.0, y.1, y.2, y.4.alone)) in
    deleted g.D.Disk.told g.D.Device.failures g.D.Disk.stops_alone alone rs c.args.self.now _ w ks c.args.now Done s
    (subst (λ r. IsAnswered g.D.Disk.told g.D.Device.failures g.D.Disk.stops_alone alone rs c.args.self.now.machine w.pad (Delete c.args.now) (replied (λ _. Done) r) c.delete.new.self) c.in-Ok.is a) refl refl

pub returns-in-Err-clause-plays : goal.returns-in-Err-clause-plays
returns-in-Err-clause-plays g c = λ alone rs w ks run s.
    let a = answered g.D.Disk.told g.D.Device.failures g.D.Disk.stops_alone alone rs c.args.self.now.machine c.delete.new.self w.pad (Delete c.args.now) (replied (λ _. Done) c.delete.result) s.machine (λ st k x. let y = c.delete.ensures.steps st k x in (y.0, y.1, y.2, y.4.alone)) in
    rw c.refused.ensures
    (delete-refused g.D.Disk.told g.D.Device.failures g.D.Disk.stops_alone alone rs c.args.self.now _ w ks c.args.now c.in-Err.bad s
    (subst (λ r. IsAnswered g.D.Disk.told g.D.Device.failures g.D.Disk.stops_alone alone rs c.args.self.now.machine w.pad (Delete c.args.now) (replied (λ _. Done) r) c.delete.new.self) c.in-Err.is a) refl refl)

pub returns-in-Err-clause-ends : goal.returns-in-Err-clause-ends
returns-in-Err-clause-ends g c = λ alone rs w ks run s.
    rw c.refused.ensures
    (refused-ends alone (told.Delete) _ _ verb.Drop None c.in-Err.bad
    (err-counts g.D.Disk.told g.D.Device.failures g.D.Disk.stops_alone alone rs c.args.self.now.machine c.delete.new.self w.pad (Delete c.args.now) (λ _. Done) c.delete.result c.in-Err.bad s.machine
    (λ st k x. let y = c.delete.ensures.steps st k x in (y.0, y.1, y.2, y.4.alone)) c.in-Err.is))
