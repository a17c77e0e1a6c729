use Rattle.std.proofs.Common.{refl, ap, ◌∙◌, subst, None, Some, arith}
use Rattle.std.specs.Prelude.{MatchResult}
use Rattle.ep_members.specs.declared.actors.Actor.TheVariants as actor
use Rattle.ep_members.specs.declared.member.Member.{Member}
use Rattle.ep_members.specs.Actors.{PutsActor}
use Rattle.ep_world.specs.Actors.{member_of}
use Rattle.ep_members.specs.Conns.{TakesUp, kept_closing_if}
use Rattle.ep_event.specs.declared.event.Event.TheVariants as told
use Rattle.ep_world.specs.Failing.{IsFailure}
use Rattle.ep_world.specs.Taking.{Settles}
use Rattle.ep_world.proofs.Conns.{takes-message, takes-none}
use Rattle.ep_world.proofs.Takes.{fails, named-nothing, named-took}
use Rattle.ep_world.specs.Counting.{Counts}
use Rattle.ep_world.proofs.world.World.take_of_member.Goals as goal

pub returns-in_default-clause-comes : goal.returns-in_default-clause-comes
returns-in_default-clause-comes g c = λ alone rs w ks a is e s.
    let f = ap (λ (x : Member). x.conn) e in
    let t = takes-none a.conn c.take.new.self (subst (λ x. TakesUp x None c.take.new.self) f (subst (λ o. TakesUp c.args.member.conn o c.take.new.self) c.in_default.is c.take.ensures)) in
    named-nothing g.D.Disk.told g.D.Device.failures g.D.Disk.stops_alone alone rs c.args.self.now _ w ks c.args.now c.args.name a is t.0 s refl refl
    (subst (λ x. PutsActor c.args.self.now.actors c.args.name (actor.Named x) c.seat.new.self)
    (ap (λ (x : Member). record x { conn = c.take.new.self }) e ∙ ap (λ x. record (member_of a (ks c.args.name)) { conn = x }) t.1) c.in_ok-seat.ensures)

pub returns-clause-comes : goal.returns-clause-comes
returns-clause-comes g c = λ alone rs w ks a is e s.
    let f = ap (λ (x : Member). x.conn) e in
    let t = takes-message a.conn c.in-Some.sent c.take.new.self (subst (λ x. TakesUp x (Some c.in-Some.sent) c.take.new.self) f (subst (λ o. TakesUp c.args.member.conn o c.take.new.self) c.in-Some.is c.take.ensures)) in
    let q = c.session-session.ensures ∙ ap (λ x. x.session) f in
    let b = subst (λ r. MatchResult r (Settles g.D.Disk.told g.D.Device.failures g.D.Disk.stops_alone alone rs w.pad c.session-session.result t.msg c.args.now c.bring_or_leave.new.machine) IsFailure) c.in-Ok.is (c.bring_or_leave.ensures.settles alone rs w.pad t.msg t.sent s.machine) in
    rw c.show.ensures
    (named-took g.D.Disk.told g.D.Device.failures g.D.Disk.stops_alone alone rs c.args.self.now _ w ks c.args.now c.args.name a t.msg t.rest c.in-Ok.took is t.up s
    (subst (λ x. Settles g.D.Disk.told g.D.Device.failures g.D.Disk.stops_alone alone rs w.pad x t.msg c.args.now c.bring_or_leave.new.machine c.in-Ok.took) q b) refl
    (subst (λ x. PutsActor c.args.self.now.actors c.args.name (actor.Named x) c.seat-2.new.self)
    (ap (λ (x : Member). record x { conn = c.close_if.new.self }) e
    ∙ ap (λ x. record (member_of a (ks c.args.name)) { conn = x }) (c.in_ok-close_if.ensures ∙ ap (λ x. kept_closing_if x c.take.new.self) c.closing.ensures ∙ ap (kept_closing_if _) t.after))
    c.in_ok-seat-2.ensures))

pub returns-in-Err-clause-comes : goal.returns-in-Err-clause-comes
returns-in-Err-clause-comes g c = λ alone rs w ks a is e s.
    let f = ap (λ (x : Member). x.conn) e in
    let t = takes-message a.conn c.in-Some.sent c.take.new.self (subst (λ x. TakesUp x (Some c.in-Some.sent) c.take.new.self) f (subst (λ o. TakesUp c.args.member.conn o c.take.new.self) c.in-Some.is c.take.ensures)) in
    fails g.D.Disk.told g.D.Device.failures g.D.Disk.stops_alone alone rs (record c.args.self.now { machine = c.bring_or_leave.new.machine }) w ks c.args.now (told.Take c.args.name) c.in-Err.bad
    (subst (λ r. MatchResult r (Settles g.D.Disk.told g.D.Device.failures g.D.Disk.stops_alone alone rs w.pad c.session-session.result t.msg c.args.now c.bring_or_leave.new.machine) IsFailure) c.in-Err.is (c.bring_or_leave.ensures.settles alone rs w.pad t.msg t.sent s.machine))

pub returns-in_default-clause-counts : goal.returns-in_default-clause-counts
returns-in_default-clause-counts g c = λ alone rs w ks a is e s. omega arith

pub returns-clause-counts : goal.returns-clause-counts
returns-clause-counts g c = λ alone rs w ks a is e s.
    let f = ap (λ (x : Member). x.conn) e in
    let t = takes-message a.conn c.in-Some.sent c.take.new.self (subst (λ x. TakesUp x (Some c.in-Some.sent) c.take.new.self) f (subst (λ o. TakesUp c.args.member.conn o c.take.new.self) c.in-Some.is c.take.ensures)) in
    subst (λ r. Counts (g.D.Device.failures c.args.self.now.machine.disk) (g.D.Device.failures c.bring_or_leave.new.machine.disk) r) c.in-Ok.is (c.bring_or_leave.ensures.counts alone rs w.pad t.msg t.sent s.machine)

pub returns-in-Err-clause-counts : goal.returns-in-Err-clause-counts
returns-in-Err-clause-counts g c = λ alone rs w ks a is e s.
    let f = ap (λ (x : Member). x.conn) e in
    let t = takes-message a.conn c.in-Some.sent c.take.new.self (subst (λ x. TakesUp x (Some c.in-Some.sent) c.take.new.self) f (subst (λ o. TakesUp c.args.member.conn o c.take.new.self) c.in-Some.is c.take.ensures)) in
    subst (λ r. Counts (g.D.Device.failures c.args.self.now.machine.disk) (g.D.Device.failures c.bring_or_leave.new.machine.disk) r) c.in-Err.is (c.bring_or_leave.ensures.counts alone rs w.pad t.msg t.sent s.machine)
