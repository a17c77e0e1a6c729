-- What a source in memory has left.
use Rattle.std.specs.Prelude.{ℕ, List, drop}
use Rattle.ep_disk_mem.specs.declared.mem_source.MemSource.{MemSource}

abbrev pub bytes_left : MemSource → List ℕ
bytes_left s = drop s.at s.bytes.items
