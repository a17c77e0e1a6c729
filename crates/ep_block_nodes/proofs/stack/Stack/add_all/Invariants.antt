use Rattle.std.proofs.Common.{◌≡◌, ◌++◌, length}
use Rattle.ep_block_nodes.specs.Blocks.{all_cells}
use Rattle.ep_block_nodes.proofs.stack.Stack.add_all.Given as goal

abbrev pub invariant-fronts : goal.invariant-fronts
invariant-fronts l = l.self ++ all_cells l.rest ≡ l.initial.self ++ all_cells l.groups

abbrev pub decreases-fronts : goal.decreases-fronts
decreases-fronts l = length l.rest
