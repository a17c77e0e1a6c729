-- Texts as nodes that they share, which are blocks, groups of blocks and pages of groups, and what is kept of the text of each.
use Rattle.std.specs.Prelude.{◌≡◌, ◌≤◌, List, [], ◌∷◌, ◌++◌, length, take, drop, Option, Some, None}
use Rattle.std.specs.Arc.{arc_value}
use Rattle.std.specs.declared.sync.Arc.{Arc}
use Rattle.std.specs.declared.alloc.Global.{Global}
use Rattle.ep_cs.specs.Doc.{Cell, text_of}
use Rattle.ep_block_parts.specs.Seen.{Sees}
use Rattle.ep_block_parts.specs.declared.seen.Seen.{Seen}

-- the cells of nodes, one after another, where each has these
abbrev pub node_cells : {A : Type 0} → (A → List Cell) → List (Arc A Global) → List Cell
node_cells cells [] = []
node_cells cells (a ∷ nodes) = cells (arc_value a) ++ node_cells cells nodes

abbrev pub its_own : List Cell → List Cell
its_own cs = cs

-- the cells of blocks, of groups or of pages, one after another
abbrev pub all_cells : List (Arc (List Cell) Global) → List Cell
all_cells = node_cells its_own

-- the cells of a node that is there, where it is
abbrev pub made : Option (Arc (List Cell) Global) → List Cell
made None = []
made (Some node) = arc_value node

-- a node isn't empty
pub record IsNode (s : Seen) (cs : List Cell) : Type 0 where
  pub some : 1 ≤ length cs
  pub seen : Sees s (text_of cs)

-- of all cells those are passed whose text is seen, and these are left
pub record IsPassed (s : Seen) (all rest : List Cell) : Type 0 where
  pub seen : Sees s (text_of (take s.units all))
  pub left : rest ≡ drop s.units all
