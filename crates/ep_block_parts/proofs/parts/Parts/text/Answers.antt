use Rattle.std.proofs.Common.{◌∙◌, sym, ap}
use Rattle.ep_cs.specs.Doc.{text_of}
use Rattle.ep_block_parts.proofs.Spans.{text_spans}
use Rattle.ep_block_parts.proofs.parts.Parts.text.Goals as goal

pub returns-clause-text : goal.returns-clause-text
returns-clause-text c =
    let p = c.self.inside in
    c.as_slice.ensures ∙ sym (text_spans p.spans.items p.text c.self.invariant.whole) ∙ ap text_of c.self.view_is
