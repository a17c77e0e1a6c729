-- What puts a history into a file, and why it isn't put.
use Rattle.std.specs.Prelude.{◌≡◌, ◌⊎◌, ℕ, ◌<◌, Bool, List, [], ◌∷◌, length, nat_lt, if◌then◌else◌, Option, Some, None}
use Rattle.ep_outside.specs.Disk.{Contents}
use Rattle.ep_outside.specs.declared.limits.Limits.{Limits}
use Rattle.ep_cs.specs.Doc.{Doc}
use Rattle.ep_cs.specs.Edit.{apply}
use Rattle.ep_history.specs.History.{newline}
use Rattle.ep_history.specs.Records.{AreLegal, told}
use Rattle.ep_history.specs.declared.record.Record.{Record}
use Rattle.ep_history.specs.declared.rev.Rev.{Rev}
use Rattle.ep_journal.specs.Refusals.{HasFault}
use Rattle.ep_past.specs.Records.{records_of, told_pad}
use Rattle.ep_pad_file.specs.Standing.{StandsFor}
use Rattle.ep_put.specs.Whole.{full_with}
use Rattle.ep_put.specs.declared.bad.PutBad.{PutBad}
use Rattle.ep_put.specs.declared.bad.PutBad.TheVariants as bad

-- the records of a birth's revisions, and of whether anybody may enter
abbrev pub history_records : List Rev → Bool → List Record
history_records [] public = []
history_records (v ∷ vs) public = records_of v vs public

-- a legal list of records that tells a pad of one birth with just these revisions, present and with that status
abbrev pub TellsHistory : List Record → List Rev → Bool → Type 0
TellsHistory rs [] public = ⊥
TellsHistory rs (v ∷ vs) public = (limits : Limits) → AreLegal limits rs × (told limits rs ≡ told_pad limits v vs public)

-- the file stands for all of the history
abbrev pub StandsForHistory : List Rev → Bool → List ℕ → Type 0
StandsForHistory vs public file = StandsFor (history_records vs public) file

-- the file stands for all of the history, or for no record
abbrev pub IsAllOrNone : List Rev → Bool → List ℕ → Type 0
IsAllOrNone vs public file = StandsForHistory vs public file ⊎ StandsFor [] file

-- the disk tells a file that stands for all of the history
abbrev pub HoldsHistory : Option Contents → List Rev → Bool → Type 0
HoldsHistory None vs public = ⊥
HoldsHistory (Some c) vs public = StandsForHistory vs public c.seen

-- ---- refusals

-- so many units a pad's text may have
abbrev pub most_units : ℕ
most_units = 1000000

-- the length of the first document that is too long, of those after these revisions
abbrev pub first_long : Doc → List Rev → Option ℕ
first_long doc [] = None
first_long doc (v ∷ vs) = let after = apply v.change.edit doc in if nat_lt most_units (length after) then Some (length after) else first_long after vs

-- a file that may have so many bytes takes all of the history
pub record IsTaken (limit : ℕ) (vs : List Rev) (public : Bool) : Type 0 where
  pub short : first_long newline vs ≡ None
  pub small : full_with limit (history_records vs public) ≡ None

-- Why a history isn't put: the file holds so many records and may have so many bytes. Beside these stand whether no device call of the disk fails, and its count of faults before and now.
abbrev pub PutRefused : ℕ → ℕ → List Rev → Bool → Type 0 → ℕ → ℕ → PutBad → Type 0
PutRefused count limit vs public sure before now bad.Exists = 0 < count
PutRefused count limit vs public sure before now (bad.TooLong n) = (count ≡ 0) × (first_long newline vs ≡ Some n)
PutRefused count limit vs public sure before now (bad.Full n) = (count ≡ 0) × (first_long newline vs ≡ None) × (full_with limit (history_records vs public) ≡ Some n)
PutRefused count limit vs public sure before now (bad.Disk n) = (count ≡ 0) × IsTaken limit vs public × HasFault sure before now n
PutRefused count limit vs public sure before now bad.NoMemory = count ≡ 0

-- a refusal has left something so, unless it was the disk's
abbrev pub Leaves : Type 0 → PutBad → Type 0
Leaves same (bad.Disk n) = Unit {0}
Leaves same why = same

-- it wasn't the disk's
abbrev pub IsNoFault : PutBad → Type 0
IsNoFault (bad.Disk n) = ⊥
IsNoFault why = Unit {0}
