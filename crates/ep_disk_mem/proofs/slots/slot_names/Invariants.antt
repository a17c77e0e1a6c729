use Rattle.std.proofs.Common.{◌≡◌, ◌++◌, drop}
use Rattle.ep_disk_mem.specs.Slots.{names_of}
use Rattle.ep_disk_mem.proofs.slots.slot_names.Given as goal

abbrev pub invariant-loop-slot : goal.invariant-loop-slot
invariant-loop-slot l = l.names.items ++ names_of (drop l.slot-index l.slots) ≡ names_of l.slots
