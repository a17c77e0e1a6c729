use Rattle.std.proofs.Common.{◌∙◌, length, sym, ap}
use Rattle.ep_block_parts.proofs.Spans.{length_spans}
use Rattle.ep_block_parts.proofs.parts.Parts.len.Goals as goal

pub returns : goal.returns
returns c =
    let p = c.self.inside in
    c.len.ensures ∙ sym (length_spans p.spans.items p.text c.self.invariant.whole) ∙ ap length c.self.view_is
