use Rattle.std.proofs.Common.{length, ◌-◌, ◌≡◌, ◌≤◌, ◌++◌, drop, take}
use Rattle.ep_disk_mem.specs.Slots.{put_in}
use Rattle.ep_disk_mem.proofs.slots.put_slot.Given as goal

abbrev pub invariant-loop-at : goal.invariant-loop-at
invariant-loop-at l = (l.slots.items ≡ l.fn.slots.items) × (put_in l.slots.items l.slot ≡ take l.at l.slots.items ++ put_in (drop l.at l.slots.items) l.slot) × (l.at ≤ length l.slots.items)

abbrev pub decreases-loop-at : goal.decreases-loop-at
decreases-loop-at l = length l.slots.items - l.at
