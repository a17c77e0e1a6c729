-- The file of a pad over a disk.
use Rattle.std.specs.Prelude.{◌≡◌, ℕ, ◌+◌, ◌-◌, ◌^◌, ◌≤◌, min, List, ◌∷◌, [], true, nat_lt, Option, Some, Result, OnOk, IsErrOf}
use Rattle.ep_outside.specs.Disk.{Contents, Room, settled}
use Rattle.ep_journal.specs.File.{mended, is_foreign}
use Rattle.ep_journal.specs.Journal as journal
use Rattle.ep_record.specs.Bytes.{bytes_of}
use Rattle.ep_history.specs.Refusals.{first_fault, fault_if}
use Rattle.ep_history.specs.Machine.{most_bytes}
use Rattle.ep_history.specs.declared.pad_bad.PadBad.{PadBad}
use Rattle.ep_history.specs.declared.pad_bad.PadBad.TheVariants.{Foreign, JournalFull}
use Rattle.ep_history.specs.declared.record.Record.{Record}
use Rattle.ep_pad_file.specs.Standing.{size, StandsFor, Holds}
use Rattle.ep_pad_file.specs.declared.pad_file.PadFile.{PadFile}

abbrev pub disk_of : {D : Type 0} → PadFile D → D
disk_of f = journal.disk_of f.journal

-- the greatest length that it may have
abbrev pub limit_of : {D : Type 0} → PadFile D → ℕ
limit_of f = journal.limit_of f.journal

-- the count of its records
abbrev pub count_of : {D : Type 0} → PadFile D → ℕ
count_of f = journal.count_of f.journal

-- its length
abbrev pub length_of : {D : Type 0} → PadFile D → ℕ
length_of f = journal.length_of f.journal

-- the length of a file of that length with one record more
abbrev pub length_with : ℕ → Record → ℕ
length_with length r = length + (size r + 5)

-- why a file of that length that may have so many bytes takes no record of these bytes: it is too long by itself, or with the file
abbrev pub size_fault : ℕ → ℕ → ℕ → Option PadBad
size_fault length most bytes =
    first_fault (fault_if (nat_lt most_bytes bytes) (JournalFull bytes) ∷ fault_if (nat_lt most (length + (bytes + 5))) (JournalFull (length + (bytes + 5))) ∷ [])

-- why it takes no such record
abbrev pub file_fault : ℕ → ℕ → Record → Option PadBad
file_fault length most r = size_fault length most (size r)

-- so many bytes as a number of 64 bits says them: no file has more than the greatest
abbrev pub saturated : ℕ → ℕ
saturated bytes = min bytes (2 ^ 64 - 1)

-- open: the disk holds a file at rest and synced, and the places of its records are known
abbrev pub IsReady : {D : Type 0} → (D → Option Contents) → PadFile D → Type 0
IsReady told f = journal.IsReady told f.journal

abbrev pub IsClosed : {D : Type 0} → PadFile D → Type 0
IsClosed f = journal.IsClosed f.journal

-- there is room in memory for this record, and below the limit
pub record HasRoomFor {D : Type 0} (room : D → Room) (f : PadFile D) (r : Record) : Type 0 where
  pub memory : journal.HasRoomFor room f.journal (bytes_of r)
  pub limit : length_with (length_of f) r ≤ limit_of f

-- the same file over a disk that changed
abbrev pub IsSameOver : {D : Type 0} → PadFile D → PadFile D → Type 0
IsSameOver old new = journal.IsSameOver old.journal new.journal

-- an opening of the disk that holds this image: the records for which it stands are held then, and it is refused as foreign only where it is
pub record Reopens (image : List ℕ) (told : Option Contents) (result : Result (Unit {0}) PadBad) : Type 0 where
  pub records : (rs : List Record) → StandsFor rs image → OnOk result (Holds told rs)
  pub file : OnOk result (told ≡ Some (settled (mended image)))
  pub foreign : IsErrOf result Foreign → is_foreign image ≡ true
