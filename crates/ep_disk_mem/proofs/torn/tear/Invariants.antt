use Rattle.std.proofs.Common.{◌≡◌, ◌-◌, ◌<◌, ◌≤◌, ◌⊎◌, ℕ, length, get_or, vec_capacity}
use Rattle.ep_outside.specs.Disk.{IsUntouched}
use Rattle.ep_outside.specs.Crash.{IsTouched, filling}
use Rattle.ep_disk_mem.proofs.torn.tear.Given as goal

abbrev pub invariant-loop-i : goal.invariant-loop-i
invariant-loop-i l = record {
  size : length l.bytes.items ≡ l.i;
  most : l.i ≤ l.total;
  room : vec_capacity l.bytes ≡ vec_capacity l.fn.bytes;
  filled : (k : ℕ) → k < l.i → IsTouched l.ranges k ⊎ (length l.synced ≤ k) → get_or l.bytes.items k 0 ≡ filling l.fill k;
  stays : (k : ℕ) → k < l.i → k < length l.synced → IsUntouched l.ranges k → get_or l.bytes.items k 0 ≡ get_or l.synced k 0;
}

abbrev pub decreases-loop-i : goal.decreases-loop-i
decreases-loop-i l = l.total - l.i
