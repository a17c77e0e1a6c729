use Rattle.std.proofs.Common.{◌∙◌, length, sym, ap}
use Rattle.ep_block_parts.proofs.Spans.{length_left}
use Rattle.ep_block_parts.proofs.within.Within.len.Goals as goal

pub returns : goal.returns
returns c =
    let w = c.self.inside in
    sym (length_left w.spans.now w.left w.text.now c.self.invariant.whole) ∙ ap length c.self.view_is
