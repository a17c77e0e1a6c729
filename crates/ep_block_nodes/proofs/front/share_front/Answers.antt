use Rattle.std.proofs.Common.{◌∙◌, ◌++◌, List, ap, append_assoc}
use Rattle.ep_cs.specs.Doc.{Cell}
use Rattle.ep_block_nodes.specs.Blocks.{node_cells}
use Rattle.ep_block_nodes.proofs.Blocks.{shared, split_nodes}
use Rattle.ep_block_nodes.proofs.front.share_front.Goals as goal

pub returns-clause-shared : goal.returns-clause-shared
returns-clause-shared g c =
    let f = g.T.Node.cells in
    let cut = c.split_at in
    let old = c.args.last.now.items in
    let front = cut.result.0.now in
    let rest = cut.result.1.now in
    ap (λ (cs : List Cell). cs ++ node_cells f rest) (shared f old c.extend_with_clones.new.self.items front c.in_ok-extend_with_clones.ensures.items)
    ∙ append_assoc (node_cells f old) (node_cells f front) (node_cells f rest)
    ∙ ap (λ (cs : List Cell). node_cells f old ++ cs) ((λ i. node_cells f (cut.ensures.front i) ++ node_cells f (cut.ensures.back i)) ∙ split_nodes f c.min.result c.args.nodes.now)
