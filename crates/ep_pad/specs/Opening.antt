-- What opening a machine comes to.
use Rattle.std.specs.Prelude.{◌≡◌, ◌⊎◌, ℕ, ◌-◌, ◌^◌, ◌<◌, ◌≤◌, Bool, true, false, List, [], ◌∷◌, ◌++◌, length, map, take, get_or, Option, Some, None, Err}
use Rattle.std.specs.List.{AllByRecursion}
use Rattle.ep_outside.specs.Disk.{Contents}
use Rattle.ep_outside.specs.declared.limits.Limits.{Limits}
use Rattle.ep_history.specs.Pad.{reopened}
use Rattle.ep_history.specs.Records.{AreLegal, IsNext, told}
use Rattle.ep_history.specs.Entries.{Entry}
use Rattle.ep_history.specs.Machine.{MachineState, IsKeptState, IsThen, IsClosedStep, journal_fault, open_record, reopening, settled}
use Rattle.ep_history.specs.declared.pad_bad.PadBad.{PadBad}
use Rattle.ep_history.specs.declared.pad_bad.PadBad.TheVariants.{BadRecord, Foreign, JournalFull, NoMemory, Store}
use Rattle.ep_history.specs.declared.record.Record.{Record}
use Rattle.ep_journal.specs.File.{records_of}
use Rattle.ep_journal.specs.Held.{IsForeign}
use Rattle.ep_record.specs.Bytes.{bytes_of, IsEncoding, IsRecord}
use Rattle.ep_pad_file.specs.Standing.{size, Holds, MayHold, StandsFor}
use Rattle.ep_pad_state.specs.Held.{IsPad}
use Rattle.ep_pad_state.specs.declared.pad.Pad.{Pad}
use Rattle.ep_pad.specs.Standing.{opening}

-- a count of faults rose to this, or stands at the greatest that is counted
pub record HasRisenTo (before now n : ℕ) : Type 0 where
  pub is : now ≡ n
  pub risen : (before < n) ⊎ (n ≡ 2 ^ 64 - 1)

-- memory was wanting, or the store failed
pub data IsReadFault (before now : ℕ) (bad : PadBad) : Type 0 where
  Wants : bad ≡ NoMemory → IsReadFault before now bad
  Faults : (count : ℕ) → bad ≡ Store count → HasRisenTo before now count → IsReadFault before now bad

-- an opening of a file is refused: for want of memory, as the store failed, for the length of its record, or for a record
-- that is none or can't come there
abbrev pub BeginRefused : ℕ → ℕ → PadBad → Type 0
BeginRefused before now (Store n) = HasRisenTo before now n
BeginRefused before now (JournalFull n) = Unit {0}
BeginRefused before now (BadRecord k) = Unit {0}
BeginRefused before now NoMemory = Unit {0}
BeginRefused before now _ = ⊥

-- and of a disk: or as its file is no journal
abbrev pub OpenRefused : Option Contents → ℕ → ℕ → PadBad → Type 0
OpenRefused told before now Foreign = IsForeign told
OpenRefused told before now bad = BeginRefused before now bad

-- why the journal of a machine with these limits and records doesn't take the record of its opening, if it doesn't
abbrev pub OpensWith : Limits → List Record → Option PadBad → Type 0
OpensWith limits rs why =
    (st : MachineState) → st.records ≡ rs → st.pad.limits ≡ limits → journal_fault size st (opening (told limits rs)) ≡ why

-- ---- a file's records are read back

-- a file's first records are these, a legal list
pub record IsFront (limits : Limits) (file : List ℕ) (rs : List Record) (n : ℕ) : Type 0 where
  pub bytes : map bytes_of rs ≡ take n (records_of file)
  pub records : AllByRecursion IsRecord rs
  pub legal : AreLegal limits rs

-- those before this one are a legal list, and its bytes are no record that may come behind them
pub record IsBadAt (limits : Limits) (file : List ℕ) (k : ℕ) : Type 0 where
  pub front : List Record
  pub are : IsFront limits file front k
  pub below : k < length (records_of file)
  pub bad : (r : Record) → IsEncoding (get_or (records_of file) k []) r → IsNext (told limits front) r → ⊥

-- a file whose records are a legal list
abbrev pub IsLegalFile : Limits → List ℕ → Type 0
IsLegalFile limits file = (rs : List Record) × StandsFor rs file × AreLegal limits rs

-- a file's records are a legal list, behind which the opening's record has no room: by itself or with them it has so many bytes
pub record IsFullAt (limits : Limits) (file : List ℕ) (bytes : ℕ) : Type 0 where
  pub records : List Record
  pub stands : StandsFor records file
  pub legal : AreLegal limits records
  pub full : OpensWith limits records (Some (JournalFull bytes))

-- ---- a file that holds these records is opened

module _ {D : Type 0} (told_by : D → Option Contents) (failures : D → ℕ) (limits : Limits) (rs : List Record) where
  -- the opening's record is kept behind them, and the pad is what they tell, in the next opening
  pub record Begins (old new : D) (made : Pad) : Type 0 where
    pub holds : Holds (told_by new) (rs ++ opening (told limits rs) ∷ [])
    pub fits : OpensWith limits rs None
    pub pad : IsPad made (reopened (told limits rs))
    pub later : failures old ≤ failures new

  -- the records were not read, and the file is as it was; the opening's record is too long; or the store failed at it
  pub data IsCause (old : D) (bad : PadBad) (new : D) : Type 0 where
    IsUnread : IsReadFault (failures old) (failures new) bad → told_by new ≡ told_by old → IsCause old bad new
    IsFull : OpensWith limits rs (Some bad) → MayHold (told_by new) rs [] → IsCause old bad new
    FailsAt : (count : ℕ) → bad ≡ Store count → HasRisenTo (failures old) (failures new) count → OpensWith limits rs None
        → MayHold (told_by new) rs (opening (told limits rs) ∷ []) → IsCause old bad new

  -- what the file was being appended then
  abbrev pub appended : {old : D} {bad : PadBad} {new : D} → IsCause old bad new → List Record
  appended (IsUnread fault same) = []
  appended (IsFull full may) = []
  appended (FailsAt count is rose fits may) = opening (told limits rs) ∷ []

  -- it isn't, for this cause
  pub record BeginsNot (old : D) (bad : PadBad) (new : D) : Type 0 where
    pub later : failures old ≤ failures new
    pub cause : IsCause old bad new

-- ---- a machine is woken

-- an open machine stays as it is; a closed one has opened itself
pub data IsWoken (st mid : MachineState) : Type 0 where
  Was : st.is_open ≡ true → mid ≡ st → IsWoken st mid
  Opened : (kept : Bool) → st.is_open ≡ false → journal_fault size (settled kept st) (open_record (settled kept st)) ≡ None
      → IsThen (reopening (settled kept st)) mid → IsWoken st mid

-- a closed one has not, and any entry is refused for that
abbrev pub Sleeps : MachineState → PadBad → MachineState → Type 0
Sleeps st bad new = (st.is_open ≡ false) × ((e : Entry) → IsClosedStep size st e (Err bad) new)

-- a closed one found its records, and its journal has no room for the record of its opening: it stays as it is
abbrev pub IsFullThen : MachineState → PadBad → MachineState → Type 0
IsFullThen st bad new = (journal_fault size st (open_record st) ≡ Some bad) × IsThen st new

-- a machine that stopped
abbrev pub stopped : MachineState → MachineState
stopped st = record st { is_open = false }

-- a closed machine whose file has these records, and where it was being appended this pending one
abbrev pub found : Limits → List Record → List Record → ℕ → MachineState
found limits rs pending faults = record { records = rs; pad = told limits rs; is_open = false; pending = pending; faults = faults }

-- a disk that was refused: it counts no fewer faults, and what an append left on it is left so still
pub record IsRefused {D : Type 0} (told_by : D → Option Contents) (failures : D → ℕ) (limits : Limits) (disk back : D) (why : PadBad) : Type 0 where
  pub cause : OpenRefused (told_by disk) (failures disk) (failures back) why
  pub later : failures disk ≤ failures back
  pub keeps : (rs pending : List Record) → MayHold (told_by disk) rs pending → AreLegal limits (rs ++ pending) → (n : ℕ) × (next : MachineState)
      × Sleeps (found limits rs pending n) why next × MayHold (told_by back) next.records next.pending × (failures disk ≤ n)

-- a closed state all of whose records a file has, as a machine with these limits finds it on a disk that counts so many faults
pub record MayFind (within : Limits) (faults : ℕ) (file : List ℕ) (st : MachineState) : Type 0 where
  pub stands : StandsFor st.records file
  pub kept : IsKeptState st
  pub shut : st.is_open ≡ false
  pub settled : st.pending ≡ []
  pub limits : st.pad.limits ≡ within
  pub few : st.faults ≤ faults
