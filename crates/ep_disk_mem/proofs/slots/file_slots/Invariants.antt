use Rattle.std.proofs.Common.{◌≡◌, ◌++◌, List, length}
use Rattle.ep_disk_mem.specs.declared.mem_file.MemFile.{MemFile}
use Rattle.ep_disk_mem.proofs.Shelving.{IsFiled}
use Rattle.ep_disk_mem.proofs.slots.file_slots.Given as goal

abbrev pub invariant-loop-file : goal.invariant-loop-file
invariant-loop-file l = (done : List MemFile) × (l.fn.files.items ≡ l.files.items ++ done) × IsFiled done l.slots.items

abbrev pub decreases-loop-file : goal.decreases-loop-file
decreases-loop-file l = length l.files.items
