-- Working words of private contracts: what keeping a record comes to.
use Rattle.std.specs.Prelude.{◌≡◌, ◌⊎◌, ℕ, List, [], ◌∷◌, ◌++◌, Option, Some, None}
use Rattle.ep_outside.specs.Crash.{IsAsked}
use Rattle.ep_outside.specs.Disk.{Contents}
use Rattle.ep_outside.specs.declared.image.Image.{Image}
use Rattle.ep_history.specs.Pad.{PadState}
use Rattle.ep_history.specs.Machine.{MachineState, IsThen, HasRisen, closed, journal_fault}
use Rattle.ep_history.specs.declared.pad_bad.PadBad.{PadBad}
use Rattle.ep_history.specs.declared.pad_bad.PadBad.TheVariants.{NoMemory, Store}
use Rattle.ep_history.specs.declared.record.Record.{Record}
use Rattle.ep_pad_file.specs.Standing.{size, StandsFor}
use Rattle.ep_pad_file.specs.Stopping.{IsStopped}

-- a record is kept, and the pad is this
abbrev pub IsKept : MachineState → Record → PadState → MachineState → Type 0
IsKept st r pad new = (journal_fault size st r ≡ None) × IsThen (record st { records = st.records ++ r ∷ []; pad = pad }) new

-- it is not: for want of memory; it is too long; or the store failed at it
pub data IsNotKept (st : MachineState) (r : Record) (bad : PadBad) (new : MachineState) : Type 0 where
  Lacks : bad ≡ NoMemory → IsThen st new → IsNotKept st r bad new
  IsFull : journal_fault size st r ≡ Some bad → IsThen st new → IsNotKept st r bad new
  Fails : (count : ℕ) → bad ≡ Store count → journal_fault size st r ≡ None → HasRisen st new count → IsThen (closed r st) new → IsNotKept st r bad new

-- whichever image of the disk is asked for, it stands for these records
abbrev pub AllStand : Option Contents → List Record → Type 0
AllStand told rs = (asked : Image) (c : Contents) (image : List ℕ) → told ≡ Some c → IsAsked c asked image → StandsFor rs image

-- a record wasn't kept on a disk that stops after so many calls: it was refused before any; or the store failed at it
pub data IsStoppedAt (told : Option Contents) (st : MachineState) (r : Record) (calls : ℕ) (bad : PadBad) : Type 0 where
  IsUnmade : (bad ≡ NoMemory) ⊎ (journal_fault size st r ≡ Some bad) → AllStand told st.records → IsStoppedAt told st r calls bad
  IsMade : (n : ℕ) → bad ≡ Store n → journal_fault size st r ≡ None → IsStopped told st.records r calls → IsStoppedAt told st r calls bad
