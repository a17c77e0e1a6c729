-- What a shelf in memory is made of.
use Rattle.std.specs.Prelude.{ℕ, Bool, ◌==◌, bytes_eq, if◌then◌else◌, List, [], ◌∷◌, length, Option, Some}
use Rattle.std.specs.List.{list_all}
use Rattle.ep_outside.specs.Disk.{Contents, settled}
use Rattle.ep_outside.specs.Shelf.{with_name}
use Rattle.ep_disk_mem.specs.declared.mem_file.MemFile.{MemFile}

-- what is told of a name on a shelf with these files, of which the first of a name counts
abbrev pub told_in : List MemFile → List ℕ → Option Contents
told_in [] name = Some (settled [])
told_in (f ∷ fs) name = if bytes_eq name f.name then Some (settled f.bytes.items) else told_in fs name

-- their names, by rising name
abbrev pub names_in : List MemFile → List (List ℕ)
names_in [] = []
names_in (f ∷ fs) = with_name (names_in fs) f.name

-- no device call of their disks is to fail
abbrev pub are_sure : List MemFile → Bool
are_sure files = list_all (λ f. length f.fails.items == 0) files
