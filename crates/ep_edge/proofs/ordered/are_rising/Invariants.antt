use Rattle.ep_edge.proofs.Neighbours.{RisesTo}
use Rattle.ep_edge.proofs.ordered.are_rising.Given as goal

abbrev pub invariant-loop-i : goal.invariant-loop-i
invariant-loop-i l = RisesTo l.pads l.i
