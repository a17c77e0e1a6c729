-- A journal over a disk.
use Rattle.std.specs.Prelude.{◌≡◌, ◌⊎◌, ℕ, ◌+◌, ◌<◌, length, List, Option, true, false, vec_len, vec_capacity, Some, Result, OnOk, OnErr, IsErrOf}
use Rattle.ep_outside.specs.Disk.{Contents, Room, HasRoom, IsImage, settled}
use Rattle.ep_journal.specs.File.{mended, stands_for, is_foreign, IsMending}
use Rattle.ep_journal.specs.Held.{IsHeld, Stands}
use Rattle.ep_journal.specs.Walking.{AreSpaced}
use Rattle.ep_journal.specs.declared.journal_bad.JournalBad.{JournalBad}
use Rattle.ep_journal.specs.declared.journal_bad.JournalBad.TheVariants.{Foreign}
use Rattle.ep_journal.specs.declared.journal.Journal.{Journal}

abbrev pub disk_of : {D : Type 0} → Journal D → D
disk_of j = j.disk

-- the greatest length of its file
abbrev pub limit_of : {D : Type 0} → Journal D → ℕ
limit_of j = j.limit

-- the count of its records
abbrev pub count_of : {D : Type 0} → Journal D → ℕ
count_of j = length j.gates.items

-- the length of its file
abbrev pub length_of : {D : Type 0} → Journal D → ℕ
length_of j = j.gate + 1

-- and with one record more
abbrev pub length_with : {D : Type 0} → Journal D → List ℕ → ℕ
length_with j rec = length_of j + (length rec + 5)

-- An open journal: the disk holds its file, at rest and synced, and the journal has the places of its records.
pub record IsReady {D : Type 0} (told : D → Option Contents) (j : Journal D) : Type 0 where
  pub is_open : j.is_open ≡ true
  pub held : IsHeld (told j.disk) j.gates.items j.gate
  pub spaced : AreSpaced j.gates.items j.gate

abbrev pub IsClosed : {D : Type 0} → Journal D → Type 0
IsClosed j = j.is_open ≡ false

-- there is room for one place, and the disk's room for this record
pub record HasRoomFor {D : Type 0} (room : D → Room) (j : Journal D) (rec : List ℕ) : Type 0 where
  pub place : vec_len j.gates < vec_capacity j.gates
  pub disk : HasRoom (room j.disk) 4 (length rec + 6)

-- the same journal over a disk that changed
pub record IsSameOver {D : Type 0} (old new : Journal D) : Type 0 where
  pub gates : new.gates.items ≡ old.gates.items
  pub gate : new.gate ≡ old.gate
  pub limit : new.limit ≡ old.limit
  pub is_open : new.is_open ≡ old.is_open

-- what a crash may leave of a disk that told this, or this image
abbrev pub IsImageOr : Option Contents → List ℕ → List ℕ → Type 0
IsImageOr told image c = IsImage told c ⊎ (c ≡ image)

-- an opening of the disk that holds this image: it stands for what the image stands for, or the image is foreign, or another refusal; what a refusal leaves synced is what an opening may leave of the image
pub record Reopens (image : List ℕ) (told : Option Contents) (result : Result (Unit {0}) JournalBad) : Type 0 where
  pub file : OnOk result (told ≡ Some (settled (mended image)))
  pub records : OnOk result (Stands told (stands_for image))
  pub foreign : IsErrOf result Foreign → is_foreign image ≡ true
  pub synced : (d : Contents) → told ≡ Some d → OnErr result (IsMending image d.synced)
