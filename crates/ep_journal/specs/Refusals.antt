-- Why a call of a journal is refused. Beside the cause stand the count of faults before and now, and the fact that no device call of the disk fails.
use Rattle.std.specs.Prelude.{◌≡◌, ℕ, ◌-◌, ◌^◌, ◌<◌, min}
use Rattle.ep_outside.specs.Outside.{HasRisen}
use Rattle.ep_journal.specs.declared.journal_bad.JournalBad.{JournalBad}
use Rattle.ep_journal.specs.declared.journal_bad.JournalBad.TheVariants.{Disk, Foreign, Full, NoMemory}

-- a device failed: the count rose and is this, and the disk isn't sure
pub record HasFault (sure : Type 0) (before now n : ℕ) : Type 0 where
  pub count : n ≡ now
  pub risen : HasRisen before now
  pub unsure : sure → ⊥

-- an opening, of a file that may be foreign
abbrev pub OpenRefused : Type 0 → Type 0 → ℕ → ℕ → JournalBad → Type 0
OpenRefused foreign sure before now (Disk n) = HasFault sure before now n
OpenRefused foreign sure before now Foreign = foreign
OpenRefused foreign sure before now (Full n) = ⊥
OpenRefused foreign sure before now NoMemory = Unit {0}

-- an append, by which the file would have so many bytes
abbrev pub AppendRefused : ℕ → ℕ → Type 0 → ℕ → ℕ → JournalBad → Type 0
AppendRefused size limit sure before now (Disk n) = HasFault sure before now n
AppendRefused size limit sure before now Foreign = ⊥
AppendRefused size limit sure before now (Full n) = (limit < size) × (n ≡ min size (2 ^ 64 - 1))
AppendRefused size limit sure before now NoMemory = ⊥

-- a reading; a fault closes the journal, and want of memory doesn't
abbrev pub ReadRefused : Type 0 → Type 0 → ℕ → ℕ → Type 0 → JournalBad → Type 0
ReadRefused closed sure before now ready (Disk n) = HasFault sure before now n × closed
ReadRefused closed sure before now ready Foreign = ⊥
ReadRefused closed sure before now ready (Full n) = ⊥
ReadRefused closed sure before now ready NoMemory = ready
