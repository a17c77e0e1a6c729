use Rattle.std.proofs.Common.{◌≡◌, ◌≤◌, take}
use Rattle.ep_cs.specs.Doc.{text_of}
use Rattle.ep_block_parts.specs.Seen.{Sees}
use Rattle.ep_block_nodes.specs.Blocks.{node_cells}
use Rattle.ep_block_nodes.proofs.front.seen_within.Given as goal

abbrev pub invariant-loop-node : goal.invariant-loop-node
invariant-loop-node g l = record {
  count : l.passed.count ≡ l.node-index;
  seen : Sees l.passed.seen (text_of (node_cells g.T.Node.cells (take l.node-index l.nodes)));
  most : l.passed.seen.units ≤ l.most;
}
