use Rattle.std.proofs.Common.{◌∙◌, ◌++◌, sym}
use Rattle.ep_block_nodes.specs.Blocks.{node_cells}
use Rattle.ep_block_nodes.proofs.Blocks.{split_nodes}
use Rattle.ep_block_nodes.proofs.front.take_within.Goals as goal

pub returns-clause-taken : goal.returns-clause-taken
returns-clause-taken g c =
    let f = g.T.Node.cells in
    sym (split_nodes f c.within-fit.result.count c.args.nodes.now.now) ∙ (λ i. node_cells f (sym c.split_at.ensures.front i) ++ node_cells f (sym c.split_at.ensures.back i))
