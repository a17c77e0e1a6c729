use Rattle.ep_block_parts.proofs.Spans.{AreMoved}
use Rattle.ep_block_parts.proofs.within.take_spans.Given as goal

abbrev pub invariant-stretches : goal.invariant-stretches
invariant-stretches l = AreMoved l.initial.spans.items l.units l.initial.rest l.spans.items l.left l.rest

abbrev pub decreases-stretches : goal.decreases-stretches
decreases-stretches l = l.left
