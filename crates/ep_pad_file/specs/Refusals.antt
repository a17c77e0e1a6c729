-- Why a call of a pad's file is refused. Beside the cause stand the count of faults before and now, and the fact that no device call of the disk fails.
use Rattle.std.specs.Prelude.{◌≡◌, ◌⊎◌, ℕ, ◌-◌, ◌^◌, ◌<◌, Option}
use Rattle.ep_outside.specs.Disk.{Contents}
use Rattle.ep_journal.specs.Held.{IsForeign}
use Rattle.ep_journal.specs.declared.journal_bad.JournalBad.{JournalBad}
use Rattle.ep_journal.specs.declared.journal_bad.JournalBad.TheVariants as journal
use Rattle.ep_history.specs.declared.pad_bad.PadBad.{PadBad}
use Rattle.ep_history.specs.declared.pad_bad.PadBad.TheVariants.{Store, Foreign, BadRecord, JournalFull, NoMemory}
use Rattle.ep_pad_file.specs.Standing.{IsNoRecord}

-- a device failed: the count rose to this, or stands at the greatest that is counted; and the disk isn't sure
pub record HasFault (sure : Type 0) (before now n : ℕ) : Type 0 where
  pub count : n ≡ now
  pub risen : (before < n) ⊎ (n ≡ 2 ^ 64 - 1)
  pub unsure : sure → ⊥

-- an opening, of a disk that told this
abbrev pub OpenRefused : Option Contents → Type 0 → ℕ → ℕ → PadBad → Type 0
OpenRefused told sure before now (Store n) = HasFault sure before now n
OpenRefused told sure before now Foreign = IsForeign told
OpenRefused told sure before now NoMemory = Unit {0}
OpenRefused told sure before now _ = ⊥

-- an append
abbrev pub AppendRefused : Type 0 → ℕ → ℕ → PadBad → Type 0
AppendRefused sure before now (Store n) = HasFault sure before now n
AppendRefused sure before now _ = ⊥

-- a reading of a record: a fault closes the file, and nothing else does
abbrev pub ReadRefused : Option Contents → ℕ → Type 0 → Type 0 → Type 0 → ℕ → ℕ → PadBad → Type 0
ReadRefused told i closed ready sure before now (Store n) = HasFault sure before now n × closed
ReadRefused told i closed ready sure before now (BadRecord k) = (k ≡ i) × IsNoRecord told i × ready
ReadRefused told i closed ready sure before now NoMemory = ready
ReadRefused told i closed ready sure before now _ = ⊥

-- the same cause, as a pad's refusal
abbrev pub same_cause : JournalBad → PadBad
same_cause (journal.Disk n) = Store n
same_cause journal.Foreign = Foreign
same_cause (journal.Full n) = JournalFull n
same_cause journal.NoMemory = NoMemory

-- a count is one of 64 bits
abbrev pub IsCount : JournalBad → Type 0
IsCount (journal.Disk n) = n < 2 ^ 64
IsCount why = Unit {0}
