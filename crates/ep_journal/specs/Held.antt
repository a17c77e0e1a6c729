-- What a disk tells of a journal's file.
use Rattle.std.specs.Prelude.{◌≡◌, ℕ, List, [], ◌∷◌, ◌++◌, length, get_or, Option, Some, None, true}
use Rattle.ep_outside.specs.Disk.{Contents, settled}
use Rattle.ep_journal.specs.File.{records_of, gates_of, closed_gate, IsAtRest, stands_for, is_foreign}

-- the file is at rest and synced, and these are its gates and its closed one
pub record HoldsFile (c : Contents) (gates : List ℕ) (gate : ℕ) : Type 0 where
  pub settled : c ≡ settled c.seen
  pub rest : IsAtRest c.seen
  pub gates_are : gates ≡ gates_of 8 (records_of c.seen)
  pub gate_is : gate ≡ closed_gate c.seen

-- so it is where the disk tells
abbrev pub IsHeld : Option Contents → List ℕ → ℕ → Type 0
IsHeld None gates gate = Unit {0}
IsHeld (Some c) gates gate = HoldsFile c gates gate

-- the file's records are the old ones and one more
abbrev pub Adds : Option Contents → Option Contents → List ℕ → Type 0
Adds None new rec = new ≡ None
Adds (Some c) None rec = ⊥
Adds (Some c) (Some d) rec = stands_for d.seen ≡ Some (records_of c.seen ++ rec ∷ [])

-- what a read gives stands for this
abbrev pub Stands : Option Contents → Option (List (List ℕ)) → Type 0
Stands None records = ⊥
Stands (Some c) records = stands_for c.seen ≡ records

-- the file has so many records
abbrev pub HasCount : Option Contents → ℕ → Type 0
HasCount None n = Unit {0}
HasCount (Some c) n = n ≡ length (records_of c.seen)

-- this is its record of that index
abbrev pub IsRecord : Option Contents → ℕ → List ℕ → Type 0
IsRecord None i rec = Unit {0}
IsRecord (Some c) i rec = rec ≡ get_or (records_of c.seen) i []

-- what was synced stands for the records, and what a read gives for these and one more
abbrev pub IsHalfway : Option Contents → List (List ℕ) → List ℕ → Type 0
IsHalfway None records rec = ⊥
IsHalfway (Some d) records rec = (stands_for d.synced ≡ Some records) × (stands_for d.seen ≡ Some (records ++ rec ∷ []))

-- its file is no journal
abbrev pub IsForeign : Option Contents → Type 0
IsForeign None = Unit {0}
IsForeign (Some c) = is_foreign c.seen ≡ true
