use Rattle.std.proofs.Common.{◌∙◌, ◌++◌, ap}
use Rattle.ep_block_nodes.specs.Blocks.{node_cells}
use Rattle.ep_block_nodes.proofs.Blocks.{shared}
use Rattle.ep_blocks.proofs.body.share.Goals as goal

pub returns : goal.returns
returns g c =
    let f = g.T.Node.cells in
    shared f c.in_ok-all.all.items c.extend_with_clones.new.self.items c.args.nodes.now c.in_ok-extend_with_clones.ensures.items
    ∙ ap (λ ns. node_cells f ns ++ node_cells f c.args.nodes.now) c.in_ok-all.ensures.items
