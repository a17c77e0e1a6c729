use Rattle.std.proofs.Common.{◌∙◌, sym, ap}
use Rattle.ep_cs.specs.Doc.{text_of}
use Rattle.ep_block_parts.proofs.Spans.{text_left}
use Rattle.ep_block_parts.proofs.within.Within.text.Goals as goal

pub returns : goal.returns
returns c =
    let w = c.self.inside in
    sym (text_left w.spans.now w.left w.text.now c.self.invariant.whole) ∙ ap text_of c.self.view_is
