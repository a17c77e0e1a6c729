use Rattle.std.proofs.Common.{◌≡◌, ◌≤◌, length, take}
use Rattle.ep_block_nodes.specs.Blocks.{node_cells}
use Rattle.ep_block_nodes.proofs.front.within.Given as goal

abbrev pub invariant-loop-node : goal.invariant-loop-node
invariant-loop-node g l = record {
  count : l.fit.count ≡ l.node-index;
  units : l.fit.units ≡ length (node_cells g.T.Node.cells (take l.node-index l.nodes));
  most : l.fit.units ≤ l.most;
}
