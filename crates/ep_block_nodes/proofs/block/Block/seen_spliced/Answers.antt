use Rattle.std.proofs.Common.{◌≡◌, length, take, drop, ap, ◌∙◌, sym, arith}
use Rattle.ep_cs.specs.Doc.{text_of}
use Rattle.ep_cs.specs.Lines.{count_lines}
use Rattle.ep_block_parts.proofs.Texts.{few_lines, lines_within}
use Rattle.ep_block_nodes.proofs.Blocks.{length_text}
use Rattle.ep_block_parts.proofs.Spliced.{fewer_lines}
use Rattle.ep_block_nodes.proofs.block.Block.seen_spliced.Goals as goal

pub spliced-requires-clause-lines : goal.spliced-requires-clause-lines
spliced-requires-clause-lines c =
    let text : c.text.result.now ≡ text_of c.self.inside.parts = c.text.ensures.text ∙ sym (ap text_of c.self.view_is) in
    let dropped = c.split_at-2.ensures.front ∙ ap (take c.args.splice.dropped) (c.split_at.ensures.back ∙ ap (drop c.args.splice.at) text) in
    omega (arith, ap count_lines dropped, fewer_lines c.args.splice.at c.args.splice.dropped (text_of c.self.inside.parts), c.self.invariant.seen.lines)

pub spliced-requires-clause-few : goal.spliced-requires-clause-few
spliced-requires-clause-few c =
    let b = c.self.inside in
    omega (arith, few_lines b.seen (text_of b.parts) c.self.invariant.seen, c.self.invariant.seen.units, length_text b.parts, ap length c.self.view_is, lines_within c.args.splice.new.text.now, c.requires.short)
