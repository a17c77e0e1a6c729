use Rattle.ep_block_parts.proofs.Spans.{more_moved}
use Rattle.ep_block_parts.proofs.within.take_spans.Goals as goal

pub stretches-preserved : goal.stretches-preserved
stretches-preserved c =
    let n = c.in_ok-left in
    more_moved c.args.spans.now.items c.stretches.spans.items c.take_span.new.spans.items c.args.units c.stretches.left n.field-0 c.args.rest.now c.stretches.rest c.take_span.new.rest c.stretches.invariant n.ensures.units.1 n.ensures.done n.ensures.rest
