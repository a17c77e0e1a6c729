use Rattle.std.proofs.Common.{refl, sym, subst, []}
use Rattle.ep_session.specs.Passing.{own, own_of}
use Rattle.ep_session.specs.Served.{LeavesBy}
use Rattle.ep_session.proofs.Coming.{left_so, not_left, both_none, both_some}
use Rattle.ep_session.proofs.session.leave.Goals as goal

pub returns-in-None-clause-left : goal.returns-in-None-clause-left
returns-in-None-clause-left g c =
    let at = c.args.place.now in
    subst (λ o. LeavesBy c.args.leaves at (own_of g.P.PadPort.known o) []) (sym c.in-None.is) (not_left c.args.leaves at [] (c.requires.none c.in-None.is))

pub returns-in-None-clause-pad : goal.returns-in-None-clause-pad
returns-in-None-clause-pad g c = both_none _ c.args.pass c.in-None.is

pub returns-then-not-leaves-clause-left : goal.returns-then-not-leaves-clause-left
returns-then-not-leaves-clause-left g c =
    let at = c.args.place.now in
    let known = g.P.PadPort.known in
    let p = c.in-Some.pass in
    subst (λ o. LeavesBy c.args.leaves at (own_of known o) (own (known p))) (sym c.in-Some.is) (not_left c.args.leaves at (own (known p)) c.if-not-leaves.true)

pub returns-then-not-leaves-clause-pad : goal.returns-then-not-leaves-clause-pad
returns-then-not-leaves-clause-pad g c = both_some _ c.args.pass c.in-Some.pass c.in-Some.pass c.in-Some.is (refl, refl, refl)

pub returns-else-not-leaves-clause-left : goal.returns-else-not-leaves-clause-left
returns-else-not-leaves-clause-left g c =
    let at = c.args.place.now in
    let known = g.P.PadPort.known in
    let p = c.in-Some.pass in
    let q = c.leave_pad.new.pass in
    subst (λ o. LeavesBy c.args.leaves at (own_of known o) (own (known q))) (sym c.in-Some.is) (left_so c.args.leaves at (own (known p)) (own (known q)) c.if-not-leaves.false c.leave_pad.ensures.left)

pub returns-else-not-leaves-clause-pad : goal.returns-else-not-leaves-clause-pad
returns-else-not-leaves-clause-pad g c = both_some _ c.args.pass c.in-Some.pass c.leave_pad.new.pass c.in-Some.is c.leave_pad.ensures.pad
