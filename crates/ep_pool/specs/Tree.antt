-- Working words of private contracts: what a node of the tree of numbers is seen as.
use Rattle.std.specs.Prelude.{ℕ, List, [], ◌∷◌, ◌++◌}
use Rattle.ep_pool.specs.declared.tree.Fork as declared
use Rattle.ep_pool.specs.declared.tree.Node.{Node}
use Rattle.ep_pool.specs.declared.tree.Node.TheVariants.{Leaf, Fork}

abbrev pub fork_numbers : declared.Fork → List ℕ
fork_numbers f = f.left ++ f.number ∷ f.right

-- the numbers from left to right
abbrev pub numbers : Node → List ℕ
numbers Leaf = []
numbers (Fork f) = fork_numbers f.value
