use Rattle.std.proofs.Common.{◌≡◌, ◌≤◌, length, take}
use Rattle.ep_block_nodes.specs.Blocks.{node_cells}
use Rattle.ep_block_nodes.proofs.splicing.find.Given as goal

abbrev pub invariant-loop-index : goal.invariant-loop-index
invariant-loop-index g l = record {
  count : l.before ≡ length (node_cells g.T.Node.cells (take l.index l.nodes));
  begins : l.before ≤ l.at;
}
