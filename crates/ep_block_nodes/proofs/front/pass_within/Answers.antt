use Rattle.std.proofs.Common.{◌≡◌, ◌∙◌, length, take, ap, sym, subst}
use Rattle.ep_cs.specs.Doc.{text_of}
use Rattle.ep_block_parts.specs.Seen.{Sees}
use Rattle.ep_block_nodes.specs.Blocks.{node_cells}
use Rattle.ep_block_nodes.proofs.Blocks.{front_taken, rest_left, length_text}
use Rattle.ep_block_nodes.proofs.front.pass_within.Goals as goal

pub returns-clause-passed : goal.returns-clause-passed
returns-clause-passed g c =
    let f = g.T.Node.cells in
    let nodes = c.args.nodes.now.now in
    let k = c.seen_within-passed.result.count in
    let s = c.seen_within-passed.result.seen in
    let told = c.seen_within-passed.ensures in
    let front = node_cells f (take k nodes) in
    let units : s.units ≡ length front = told.seen.units ∙ length_text front in
    record {
      seen = subst (λ cs. Sees s (text_of cs)) (sym (front_taken f k nodes s.units units)) told.seen;
      left = ap (node_cells f) c.split_at.ensures.back ∙ rest_left f k nodes s.units units;
    }
