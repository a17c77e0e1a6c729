-- What blocks, and what is ahead and piled of a text in nodes, stand for.
use Rattle.std.specs.Prelude.{List, ◌++◌}
use Rattle.ep_cs.specs.Doc.{Cell}
use Rattle.ep_block_nodes.specs.Blocks.{all_cells, IsNode}
use Rattle.ep_block_nodes.specs.declared.block.Block.TheInside as block
use Rattle.ep_block_nodes.specs.declared.groups.Groups.TheInside as groups
use Rattle.ep_block_nodes.specs.declared.ahead.Ahead.TheInside as ahead
use Rattle.ep_block_nodes.specs.declared.stack.Stack.TheInside as stack
use Rattle.ep_block_nodes.specs.declared.pile.Pile.TheInside as pile

abbrev pub IsBlock : block.Inside → Type 0
IsBlock b = IsNode b.seen b.parts

-- the cells of groups and of the pages behind them
abbrev pub groups_ahead : groups.Inside → List Cell
groups_ahead g = all_cells g.groups.now ++ all_cells g.pages.now

-- the cells of blocks and of what is behind them
abbrev pub cells_ahead : ahead.Inside → List Cell
cells_ahead a = all_cells a.blocks.now ++ a.groups

-- the cells of pages and of the groups behind them
abbrev pub stacked : stack.Inside → List Cell
stacked s = all_cells s.pages.items ++ all_cells s.groups.items

-- the cells of groups and of the blocks behind them
abbrev pub piled : pile.Inside → List Cell
piled p = p.groups ++ all_cells p.blocks.items
