-- With which status a program ends that can't begin.
use Rattle.std.specs.Prelude.{ℕ}
use Rattle.ep_real.specs.declared.missing.Missing.{Missing}
use Rattle.ep_real.specs.declared.missing.Missing.TheVariants as missing

-- 6 for what stands in files, 7 for memory, 8 for an address, 9 for a thread
abbrev pub status_of : Missing → ℕ
status_of missing.Key = 6
status_of missing.Folder = 6
status_of missing.Lock = 6
status_of missing.Database = 6
status_of missing.Address = 8
status_of missing.Thread = 9
status_of missing.Memory = 7
