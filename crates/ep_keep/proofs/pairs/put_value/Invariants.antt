use Rattle.std.proofs.Common.{length, ◌-◌, ◌≡◌, ◌≤◌, ◌++◌, drop, take}
use Rattle.ep_outside.specs.Kept.{with}
use Rattle.ep_keep.proofs.pairs.put_value.Given as goal

abbrev pub invariant-loop-at : goal.invariant-loop-at
invariant-loop-at l = (l.pairs.items ≡ l.fn.pairs.items) × (with l.pairs.items l.key l.value ≡ take l.at l.pairs.items ++ with (drop l.at l.pairs.items) l.key l.value) × (l.at ≤ length l.pairs.items)

abbrev pub decreases-loop-at : goal.decreases-loop-at
decreases-loop-at l = length l.pairs.items - l.at
