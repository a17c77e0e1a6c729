use Rattle.std.proofs.Common.{◌≡◌, ◌++◌, length}
use Rattle.ep_block_nodes.specs.Blocks.{all_cells}
use Rattle.ep_blocks.proofs.writer.Writer.push_groups.Given as goal

abbrev pub invariant-pieces : goal.invariant-pieces
invariant-pieces l = l.self ++ all_cells l.rest ≡ l.initial.self ++ all_cells l.groups

abbrev pub decreases-pieces : goal.decreases-pieces
decreases-pieces l = length l.rest
