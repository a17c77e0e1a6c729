-- The node that has the place of a splice.
use Rattle.std.specs.Prelude.{◌≡◌, ℕ, ◌+◌, ◌≤◌, ◌<◌, List, length, take}
use Rattle.std.specs.declared.sync.Arc.{Arc}
use Rattle.std.specs.declared.alloc.Global.{Global}
use Rattle.ep_cs.specs.Doc.{Cell}
use Rattle.ep_block_nodes.specs.Blocks.{node_cells}

-- one of some nodes has the units between two places, and so many stand before it
pub record HasPlace {A : Type 0} (cells : A → List Cell) (nodes : List (Arc A Global)) (at end index before : ℕ) : Type 0 where
  pub there : index < length nodes
  pub count : before ≡ length (node_cells cells (take index nodes))
  pub begins : before ≤ at
  pub ends : end ≤ length (node_cells cells (take (index + 1) nodes))
