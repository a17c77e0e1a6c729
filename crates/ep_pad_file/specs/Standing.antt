-- A file that stands for a pad's records, and what a crash may leave of it.
use Rattle.std.specs.Prelude.{◌≡◌, ◌⊎◌, ◌≤◌, ℕ, ◌==◌, List, [], ◌∷◌, ◌++◌, length, map, take, get_or, if◌then◌else◌, Option, Some, None}
use Rattle.std.specs.List.{AllByRecursion}
use Rattle.ep_outside.specs.Disk.{Contents, MayLeave}
use Rattle.ep_journal.specs.File.{stands_for, records_of, IsAtRest, IsUnfinished}
use Rattle.ep_record.specs.Bytes.{bytes_of, IsRecord, IsEncoding}
use Rattle.ep_history.specs.Lists.{or_else}
use Rattle.ep_history.specs.Machine.{Size, most_bytes}
use Rattle.ep_history.specs.declared.record.Record.{Record}
use Rattle.ep_history.specs.declared.record.Record.TheVariants.{Open}
use Rattle.ep_record.specs.Reading.{record_at}

-- how many bytes a record has
abbrev pub size : Size
size r = length (bytes_of r)

-- the file's records are the bytes of these, in their order
pub record StandsFor (rs : List Record) (file : List ℕ) : Type 0 where
  pub bytes : stands_for file ≡ Some (map bytes_of rs)
  pub records : AllByRecursion IsRecord rs

-- the disk tells a file that stands for these records; of a disk that doesn't tell none are known
abbrev pub Holds : Option Contents → List Record → Type 0
Holds None rs = ⊥
Holds (Some c) rs = StandsFor rs c.seen

-- and so does what was synced
abbrev pub HoldsSynced : Option Contents → List Record → Type 0
HoldsSynced None rs = ⊥
HoldsSynced (Some c) rs = StandsFor rs c.synced

-- the file has a record of this index whose bytes are no pad's record
abbrev pub IsNoRecord : Option Contents → ℕ → Type 0
IsNoRecord None i = Unit {0}
IsNoRecord (Some c) i = (r : Record) → IsEncoding (get_or (records_of c.seen) i []) r → ⊥

-- this has bytes, which are those of the file's record of that index
abbrev pub IsRecordAt : Option Contents → ℕ → Record → Type 0
IsRecordAt None i r = IsRecord r
IsRecordAt (Some c) i r = IsEncoding (get_or (records_of c.seen) i []) r

-- ---- crashes

-- the image stands for these records, or for these and those
abbrev pub IsOldOrMore : List Record → List Record → List ℕ → Type 0
IsOldOrMore rs more image = StandsFor rs image ⊎ StandsFor (rs ++ more) image

-- it has the one more exactly where its byte at the gate is 01
abbrev pub IsByGate : ℕ → List Record → Record → List ℕ → Type 0
IsByGate gate rs r image = StandsFor (if get_or image gate 0 == 1 then rs ++ r ∷ [] else rs) image

-- A file at rest as it may be left. Where no record was being appended: all of it, and anything behind it. Where this one
-- was: that, or the record's whole frame behind its last gate, and any byte at that gate. No more than one is appended.
abbrev pub IsLeftOf : List ℕ → List Record → List ℕ → Type 0
IsLeftOf rest [] file = take (length rest) file ≡ rest
IsLeftOf rest (r ∷ []) file = IsRecord r × (size r ≤ most_bytes) × IsUnfinished rest (bytes_of r) file
IsLeftOf rest (r ∷ s ∷ ss) file = ⊥

-- What was left of a file with these records where these pending ones were being appended, none or one, also where openings
-- of it stopped half-way. It stands for the records, or for these and the pending ones.
pub record IsLeft (rs pending : List Record) (file : List ℕ) : Type 0 where
  pub rest : List ℕ
  pub at_rest : IsAtRest rest
  pub stands : StandsFor rs rest
  pub left : IsLeftOf rest pending file

-- the disk tells, and what a read gives, what was synced and each image of it is left so
abbrev pub MayHold : Option Contents → List Record → List Record → Type 0
MayHold None rs pending = ⊥
MayHold (Some c) rs pending = IsLeft rs pending c.seen × IsLeft rs pending c.synced × ((image : List ℕ) → MayLeave c image → IsLeft rs pending image)

-- what was synced stands for the records, and what a read gives for these and one more
abbrev pub IsHalfway : Option Contents → List Record → Record → Type 0
IsHalfway None rs r = ⊥
IsHalfway (Some c) rs r = StandsFor rs c.synced × StandsFor (rs ++ r ∷ []) c.seen

-- the record that the bytes are, and else any
abbrev pub record_in : List ℕ → Record
record_in bytes = or_else (record_at bytes) (Open 0)
