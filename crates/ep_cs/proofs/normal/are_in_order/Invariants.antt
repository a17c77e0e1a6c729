use Rattle.std.proofs.Common.{length}
use Rattle.ep_cs.specs.InOrder.{AreInOrder}
use Rattle.ep_cs.proofs.normal.are_in_order.Given as goal

abbrev pub invariant-runs : goal.invariant-runs
invariant-runs l = AreInOrder l.rest → AreInOrder l.ops

abbrev pub decreases-runs : goal.decreases-runs
decreases-runs l = length l.rest
