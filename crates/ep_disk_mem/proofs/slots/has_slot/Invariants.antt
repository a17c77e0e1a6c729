use Rattle.std.proofs.Common.{◌≡◌, drop}
use Rattle.ep_disk_mem.specs.Slots.{has_name}
use Rattle.ep_disk_mem.proofs.slots.has_slot.Given as goal

abbrev pub invariant-loop-slot : goal.invariant-loop-slot
invariant-loop-slot l = has_name l.fn.slots l.name ≡ has_name (drop l.slot-index l.slots) l.name
