-- Working words of private contracts: no tree is deeper than it has numbers.
use Rattle.std.specs.Prelude.{◌≤◌, max, ◌∷◌, length}
use Rattle.std.proofs.Common.{arith, length-append}
use Rattle.ep_pool.specs.declared.tree.Node.{Node}
use Rattle.ep_pool.specs.declared.tree.Node.TheVariants.{Leaf, Fork}
use Rattle.ep_pool.specs.declared.tree.Tree.TheDeep.{deep-Node}
use Rattle.ep_pool.specs.Tree.{numbers}

pub depth_le-length-numbers : (n : Node) → max (deep-Node n) 0 ≤ length (numbers n)
depth_le-length-numbers Leaf = omega arith
depth_le-length-numbers (Fork f) = omega (arith, length-append f.value.left (f.value.number ∷ f.value.right))
