use Rattle.std.proofs.Common.{length, ◌-◌, ◌≡◌, ◌≤◌, ◌++◌, drop, take}
use Rattle.ep_outside.specs.Kept.{without}
use Rattle.ep_keep.proofs.pairs.remove_value.Given as goal

abbrev pub invariant-loop-at : goal.invariant-loop-at
invariant-loop-at l = (l.pairs.items ≡ l.fn.pairs.items) × (without l.pairs.items l.key ≡ take l.at l.pairs.items ++ without (drop l.at l.pairs.items) l.key) × (l.at ≤ length l.pairs.items)

abbrev pub decreases-loop-at : goal.decreases-loop-at
decreases-loop-at l = length l.pairs.items - l.at
