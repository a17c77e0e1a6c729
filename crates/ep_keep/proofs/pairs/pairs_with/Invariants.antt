use Rattle.std.proofs.Common.{◌≡◌, ◌++◌, drop}
use Rattle.ep_outside.specs.Kept.{listed}
use Rattle.ep_keep.proofs.pairs.pairs_with.Given as goal

abbrev pub invariant-loop-pair : goal.invariant-loop-pair
invariant-loop-pair l = l.items.items ++ listed (drop l.pair-index l.pairs) l.prefix ≡ listed l.pairs l.prefix
