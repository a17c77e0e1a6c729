use Rattle.std.proofs.Common.{◌≡◌, drop}
use Rattle.std.specs.Prelude.{IsTrue}
use Rattle.ep_disk_mem.specs.Slots.{told_of, all_sure}
use Rattle.ep_disk_mem.proofs.slots.disk_at.Given as goal

abbrev pub invariant-loop-slot : goal.invariant-loop-slot
invariant-loop-slot l = (told_of l.fn.slots l.name ≡ told_of (drop l.slot-index l.slots) l.name) × (IsTrue (all_sure l.fn.slots) → IsTrue (all_sure (drop l.slot-index l.slots)))
