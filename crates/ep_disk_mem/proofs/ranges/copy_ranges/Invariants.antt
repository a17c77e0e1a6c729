use Rattle.std.proofs.Common.{◌≡◌, ◌<◌, ℕ, length, get_or, vec_len, vec_capacity}
use Rattle.ep_outside.specs.Disk.{IsUntouched}
use Rattle.ep_disk_mem.proofs.ranges.copy_ranges.Given as goal

abbrev pub invariant-loop-at : goal.invariant-loop-at
invariant-loop-at l = record {
  len : length l.to.items ≡ length l.initial.to.items;
  same : (i : ℕ) → i < length l.to.items → IsUntouched l.ranges.items i → get_or l.to.items i 0 ≡ get_or l.from i 0;
  room : vec_capacity l.to ≡ vec_capacity l.initial.to;
  places : vec_capacity l.ranges ≡ vec_capacity l.initial.ranges;
}

abbrev pub decreases-loop-at : goal.decreases-loop-at
decreases-loop-at l = vec_len l.ranges
