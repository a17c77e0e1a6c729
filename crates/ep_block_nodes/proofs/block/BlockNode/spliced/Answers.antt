use Rattle.std.proofs.Common.{◌∙◌, ap}
use Rattle.ep_cs.specs.Doc.{text_of}
use Rattle.ep_cs.specs.Runs.{cells}
use Rattle.ep_block_parts.specs.Splices.{spliced}
use Rattle.ep_block_nodes.proofs.Splices.{text_spliced}
use Rattle.ep_block_nodes.proofs.block.BlockNode.spliced.Goals as goal

pub seen_spliced-seen-requires-clause-text : goal.seen_spliced-seen-requires-clause-text
seen_spliced-seen-requires-clause-text c =
    let splice = c.args.splice in
    let m = splice.new.attrs.now in
    let new = splice.new.text.now in
    c.text.ensures.text ∙ ap text_of (c.in_ok-parts.ensures ∙ ap (spliced splice.at splice.dropped (cells m new)) c.self.view_is)
    ∙ text_spliced splice.at splice.dropped m new c.args.self.now
