use Rattle.std.proofs.Common.{sym, arith}
use Rattle.ep_edge.proofs.Neighbours.{rises_on, rises_whole}
use Rattle.ep_edge.proofs.ordered.are_rising.Goals as goal

pub loop-i-init : goal.loop-i-init
loop-i-init c = λ k below. absurd (omega arith)

pub loop-i-preserved : goal.loop-i-preserved
loop-i-preserved c =
    rises_on c.args.pads.now c.loop-i.i _ _ c.loop-i.auto.i c.loop-i-test.true c.index-pads-i.is c.index-pads-i-in-loop-i.is
    (rw (sym c.order.ensures) (sym c.if-not-is_lt.ensures)) c.loop-i.invariant

pub returns : goal.returns
returns c = λ _. rises_whole c.args.pads.now (λ k below. c.loop-i.invariant k (omega (arith, c.loop-i-test.false)))
