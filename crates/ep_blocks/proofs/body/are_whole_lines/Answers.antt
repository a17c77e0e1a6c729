use Rattle.std.proofs.Common.{◌≡◌, ◌≤◌, ◌∙◌, List, length, ap, sym, arith}
use Rattle.std.specs.Arc.{arc_value}
use Rattle.ep_cs.specs.Doc.{Cell, text_of}
use Rattle.ep_cs.specs.Lines.{is_whole_lines}
use Rattle.ep_block_parts.proofs.Texts.{tail_none}
use Rattle.ep_block_nodes.proofs.Blocks.{last_whole, length_text}
use Rattle.ep_blocks.proofs.body.are_whole_lines.Goals as goal

pub returns-in-len1-up : goal.returns-in-len1-up
returns-in-len1-up g c =
    let f = g.T.Node.cells in
    let n = c.node-item.result in
    let s = c.seen.ensures.seen in
    let same : f c.deref.result.now ≡ f (arc_value n) = ap f c.deref.ensures in
    let some : 1 ≤ length (f (arc_value n)) = omega (arith, c.seen.ensures.some, s.units, length_text (f c.deref.result.now), ap length same) in
    sym (tail_none c.seen.result _ s) ∙ ap (λ (cs : List Cell). is_whole_lines (text_of cs)) same ∙ sym (last_whole f c.args.nodes.now n c.in-len1-up.len_at_least c.node-item.is some)
