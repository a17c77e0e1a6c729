use Rattle.std.proofs.Common.{refl, sym, ap, ◌∙◌, subst, false, Some}
use Rattle.ep_history.specs.Entries.Answer.{LoginAnswer}
use Rattle.ep_history.specs.Entries.Entry.{Login}
use Rattle.ep_schedule.specs.World.{grant_of}
use Rattle.ep_pad.specs.Standing.{replied}
use Rattle.ep_pad_state.specs.Answering.{welcome_of}
use Rattle.ep_world.specs.declared.world.World.{World}
use Rattle.ep_members.specs.Actors.{is_a_guest}
use Rattle.ep_world.specs.Standing.{IsAnswered}
use Rattle.ep_world.proofs.Calls.{answered}
use Rattle.ep_world.proofs.Entered.{guest-known, logged-in, login-refused}
use Rattle.ep_event.specs.declared.event.Event.TheVariants as told
use Rattle.ep_event.specs.declared.shown.Verb.TheVariants as verb
use Rattle.ep_world.proofs.Counting.{err-counts, refused-ends}
use Rattle.ep_world.proofs.world.World.login.Goals as goal

pub returns-in-Ok-clause-plays : goal.returns-in-Ok-clause-plays
returns-in-Ok-clause-plays g c = λ alone rs w ks run s.
    let old = c.args.self.now in
    let new : World g.row.D.Denot = record { alloc = old.alloc; id = old.id; machine = c.login.new.self; actors = c.start.new.actors } in
    let i = sym (guest-known (w.actors c.args.name) (ks c.args.name)) ∙ ap is_a_guest (sym (s.actors c.args.name)) ∙ sym c.is_guest.ensures ∙ c.if-is_guest.false in
    let a = answered g.D.Disk.told g.D.Device.failures g.D.Disk.stops_alone alone rs old.machine new.machine w.pad (Login c.in_ok-grant.grant c.args.now) (replied (λ x. LoginAnswer (welcome_of x)) c.login.result) s.machine (λ st k x. let y = c.login.ensures.steps st k x in (y.0, y.1, y.2, y.4.alone)) in
    let b = subst (λ y. IsAnswered g.D.Disk.told g.D.Device.failures g.D.Disk.stops_alone alone rs old.machine w.pad (Login y c.args.now) (replied (λ x. LoginAnswer (welcome_of x)) c.login.result) new.machine) (c.in_ok-grant.ensures w s.id) a in
    rw c.in_ok-start-in-Ok.ensures.shown
    ((logged-in g.D.Disk.told g.D.Device.failures g.D.Disk.stops_alone alone rs old new w ks c.args.now c.args.name c.in-Ok.welcome i s
    (subst (λ r. IsAnswered g.D.Disk.told g.D.Device.failures g.D.Disk.stops_alone alone rs old.machine w.pad (Login (grant_of w c.args.name false) c.args.now) (replied (λ x. LoginAnswer (welcome_of x)) r) new.machine) c.in-Ok.is b) refl c.in_ok-start-in-Ok.ensures.put))

pub returns-clause-plays : goal.returns-clause-plays
returns-clause-plays g c = λ alone rs w ks run s.
    let old = c.args.self.now in
    let new : World g.row.D.Denot = record { alloc = old.alloc; id = old.id; machine = c.login.new.self; actors = old.actors } in
    let i = sym (guest-known (w.actors c.args.name) (ks c.args.name)) ∙ ap is_a_guest (sym (s.actors c.args.name)) ∙ sym c.is_guest.ensures ∙ c.if-is_guest.false in
    let a = answered g.D.Disk.told g.D.Device.failures g.D.Disk.stops_alone alone rs old.machine new.machine w.pad (Login c.in_ok-grant.grant c.args.now) (replied (λ x. LoginAnswer (welcome_of x)) c.login.result) s.machine (λ st k x. let y = c.login.ensures.steps st k x in (y.0, y.1, y.2, y.4.alone)) in
    let b = subst (λ y. IsAnswered g.D.Disk.told g.D.Device.failures g.D.Disk.stops_alone alone rs old.machine w.pad (Login y c.args.now) (replied (λ x. LoginAnswer (welcome_of x)) c.login.result) new.machine) (c.in_ok-grant.ensures w s.id) a in
    rw c.refused.ensures
    ((login-refused g.D.Disk.told g.D.Device.failures g.D.Disk.stops_alone alone rs old new w ks c.args.now c.args.name c.in-Err.bad i s
    (subst (λ r. IsAnswered g.D.Disk.told g.D.Device.failures g.D.Disk.stops_alone alone rs old.machine w.pad (Login (grant_of w c.args.name false) c.args.now) (replied (λ x. LoginAnswer (welcome_of x)) r) new.machine) c.in-Err.is b) refl refl))

pub returns-clause-ends : goal.returns-clause-ends
returns-clause-ends g c = λ alone rs w ks run s.
    rw c.refused.ensures
    (refused-ends alone (told.Login c.args.name) _ _ verb.Login (Some c.args.name) c.in-Err.bad
    (err-counts g.D.Disk.told g.D.Device.failures g.D.Disk.stops_alone alone rs c.args.self.now.machine c.login.new.self w.pad (Login c.in_ok-grant.grant c.args.now) (λ x. LoginAnswer (welcome_of x)) c.login.result c.in-Err.bad s.machine
    (λ st k x. let y = c.login.ensures.steps st k x in (y.0, y.1, y.2, y.4.alone)) c.in-Err.is))
