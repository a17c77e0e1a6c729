-- Working words of private contracts: the names on a shelf in memory, with their files.
use Rattle.std.specs.Prelude.{ℕ, Bool, true, false, ◌==◌, ◌&&◌, bytes_eq, if◌then◌else◌, List, [], ◌∷◌, length, Option, Some, None}
use Rattle.ep_units.specs.Text.{text_cmp}
use Rattle.ep_outside.specs.Disk.{Contents, settled}
use Rattle.ep_outside.specs.Kept.{by_order}
use Rattle.ep_disk_mem.specs.declared.slots.Stored.{Stored}
use Rattle.ep_disk_mem.specs.declared.slots.Slot.{Slot}
use Rattle.ep_disk_mem.specs.declared.mem_file.MemFile.{MemFile}

-- what is told of a file: its bytes, in sync, and nothing once it is opened
abbrev pub told_file : Option Stored → Option Contents
told_file None = None
told_file (Some file) = Some (settled file.bytes.items)

-- what is told of a name; a new one has an empty disk
abbrev pub told_of : List Slot → List ℕ → Option Contents
told_of [] name = Some (settled [])
told_of (s ∷ ss) name = if bytes_eq name s.name then told_file s.file else told_of ss name

abbrev pub names_of : List Slot → List (List ℕ)
names_of [] = []
names_of (s ∷ ss) = s.name ∷ names_of ss

abbrev pub has_name : List Slot → List ℕ → Bool
has_name [] name = false
has_name (s ∷ ss) name = if bytes_eq name s.name then true else has_name ss name

-- no device call of the file's disk is to fail
abbrev pub is_sure : Option Stored → Bool
is_sure None = true
is_sure (Some file) = length file.fails.items == 0

abbrev pub all_sure : List Slot → Bool
all_sure [] = true
all_sure (s ∷ ss) = is_sure s.file && all_sure ss

-- the slots with this one in its place, in place of one of its name
abbrev pub put_in : List Slot → Slot → List Slot
put_in [] slot = slot ∷ []
put_in (s ∷ ss) slot = by_order (text_cmp slot.name s.name) (slot ∷ s ∷ ss) (slot ∷ ss) (s ∷ put_in ss slot)

abbrev pub slot_of : MemFile → Slot
slot_of f = record { name = f.name; file = Some (record { bytes = f.bytes; fails = f.fails }) }
