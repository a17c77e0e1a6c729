use Rattle.std.proofs.Common.{refl, sym, ap, ◌∙◌, subst, None, Some, rules}
use Rattle.std.specs.Prelude.{MatchResult}
use Rattle.ep_members.specs.declared.actors.Actor.TheVariants as actor
use Rattle.ep_members.specs.Actors.{PutsActor}
use Rattle.ep_world.specs.Actors.{member_of}
use Rattle.ep_event.specs.declared.event.Event.TheVariants as told
use Rattle.ep_world.specs.Failing.{IsFailure}
use Rattle.ep_members.specs.Members.{TakesLate}
use Rattle.ep_world.specs.Taking.{Brings}
use Rattle.ep_world.proofs.Lates.{late-none, late-some}
use Rattle.ep_world.proofs.Seating.{is-named, lent}
use Rattle.ep_world.proofs.Takes.{fails, late-nothing, late-took}
use Rattle.ep_world.specs.Counting.{Counts}
use Rattle.ep_world.proofs.Counting.{as-err, caused-ends, memory-caused}
use Rattle.ep_world.proofs.Refusing.{late-ends}
use Rattle.ep_world.proofs.world.World.late.Goals as goal

pub returns-in_default-clause-plays : goal.returns-in_default-clause-plays
returns-in_default-clause-plays g c = λ alone rs w ks run s.
    let m = c.in_ok-member.ensures.taken in
    let x = is-named (w.actors c.args.name) (ks c.args.name) c.in_ok-member.member (sym (s.actors c.args.name) ∙ m.0) in
    let t = late-none x.0 (ks c.args.name) c.late.new.self (subst (λ y. TakesLate y None c.late.new.self) x.2 (subst (λ o. TakesLate c.in_ok-member.member o c.late.new.self) c.in_default.is c.late.ensures)) in
    late-nothing g.D.Disk.told g.D.Device.failures g.D.Disk.stops_alone alone rs (record c.args.self.now { actors = c.member.new.actors }) _ w ks c.args.now c.args.name x.0 x.1 t.0
    (lent g.D.Disk.told g.D.Device.failures g.D.Disk.stops_alone alone rs c.args.self.now _ c.args.name w ks s s.machine refl m.1) refl refl
    (subst (λ y. PutsActor c.member.new.actors c.args.name (actor.Named y) c.seat.new.self) t.1 c.in_ok-seat.ensures)

pub returns-in-Err-clause-plays : goal.returns-in-Err-clause-plays
returns-in-Err-clause-plays g c = λ alone rs w ks run s.
    let m = c.in_ok-member.ensures.taken in
    let x = is-named (w.actors c.args.name) (ks c.args.name) c.in_ok-member.member (sym (s.actors c.args.name) ∙ m.0) in
    let l = late-some x.0 (ks c.args.name) (c.in-Some.session, c.in-Some.sent) c.late.new.self (subst (λ y. TakesLate y (Some (c.in-Some.session, c.in-Some.sent)) c.late.new.self) x.2 (subst (λ o. TakesLate c.in_ok-member.member o c.late.new.self) c.in-Some.is c.late.ensures)) in
    fails g.D.Disk.told g.D.Device.failures g.D.Disk.stops_alone alone rs (record c.args.self.now { machine = c.bring.new.machine; actors = c.member.new.actors }) w ks c.args.now (told.Late c.args.name) c.in-Err.bad
    (subst (λ r. MatchResult r (Brings g.D.Disk.told g.D.Device.failures g.D.Disk.stops_alone alone rs w.pad c.in-Some.session l.message.msg c.args.now c.bring.new.machine) IsFailure) c.in-Err.is (c.bring.ensures.brings alone rs w.pad l.message.msg l.message.sent s.machine))

pub returns-clause-plays : goal.returns-clause-plays
returns-clause-plays g c = λ alone rs w ks run s.
    let m = c.in_ok-member.ensures.taken in
    let x = is-named (w.actors c.args.name) (ks c.args.name) c.in_ok-member.member (sym (s.actors c.args.name) ∙ m.0) in
    let l = late-some x.0 (ks c.args.name) (c.in-Some.session, c.in-Some.sent) c.late.new.self (subst (λ y. TakesLate y (Some (c.in-Some.session, c.in-Some.sent)) c.late.new.self) x.2 (subst (λ o. TakesLate c.in_ok-member.member o c.late.new.self) c.in-Some.is c.late.ensures)) in
    let b = subst (λ r. MatchResult r (Brings g.D.Disk.told g.D.Device.failures g.D.Disk.stops_alone alone rs w.pad c.in-Some.session l.message.msg c.args.now c.bring.new.machine) IsFailure) c.in-Ok.is (c.bring.ensures.brings alone rs w.pad l.message.msg l.message.sent s.machine) in
    rw c.show_late.ensures
    (late-took g.D.Disk.told g.D.Device.failures g.D.Disk.stops_alone alone rs (record c.args.self.now { actors = c.member.new.actors }) _ w ks c.args.now c.args.name x.0 l.conn l.message.msg l.message.rest c.in-Ok.took x.1 l.before l.message.up
    (lent g.D.Disk.told g.D.Device.failures g.D.Disk.stops_alone alone rs c.args.self.now _ c.args.name w ks s s.machine refl m.1)
    (subst (λ y. Brings g.D.Disk.told g.D.Device.failures g.D.Disk.stops_alone alone rs w.pad y l.message.msg c.args.now c.bring.new.machine c.in-Ok.took) l.session b) refl
    (subst (λ y. PutsActor c.member.new.actors c.args.name (actor.Named y) c.seat-2.new.self)
    (l.rest ∙ ap (λ y. record (member_of x.0 (ks c.args.name)) { earlier = Some y }) l.message.after) c.in_ok-seat-2.ensures))

pub returns-in-Err-clause-ends : goal.returns-in-Err-clause-ends
returns-in-Err-clause-ends g c = λ alone rs w ks run s.
    caused-ends alone (told.Late c.args.name) _ _ c.in-Err.bad
    (subst (λ r. Counts (g.D.Device.failures c.args.self.now.machine.disk) (g.D.Device.failures c.bring.new.machine.disk) r) c.in-Err.is (c.bring.ensures.counts alone rs w.pad s.machine))

pub returns-clause-ends : goal.returns-clause-ends
returns-clause-ends g c = λ alone rs w ks run s.
    rw c.show_late.ensures (late-ends c.args.name c.in-Ok.took _ tt)

pub returns-in_err-member-clause-ends : goal.returns-in_err-member-clause-ends
returns-in_err-member-clause-ends g c = λ alone rs w ks run s.
    let b = c.in_err-member.field-0.0 in
    as-err _ _ c.from_residual.result b (search rules) (caused-ends alone (told.Late c.args.name) _ _ b (memory-caused _ _ b c.in_err-member.ensures.failed))
