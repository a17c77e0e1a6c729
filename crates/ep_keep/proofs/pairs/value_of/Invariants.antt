use Rattle.std.proofs.Common.{◌≡◌, drop}
use Rattle.ep_outside.specs.Kept.{value_at}
use Rattle.ep_keep.proofs.pairs.value_of.Given as goal

abbrev pub invariant-loop-pair : goal.invariant-loop-pair
invariant-loop-pair l = value_at l.fn.pairs l.key ≡ value_at (drop l.pair-index l.pairs) l.key
