-- Working words of private contracts: what a statement of a transaction does, whether it is refused or not.
use Rattle.std.specs.Prelude.{◌≡◌, ◌≤◌, ◌⊎◌, ℕ, Bool, IsTrue, List, [], ◌∷◌, None, Some, OnOk, Ok, Err, Result, is_ok}
use Rattle.sqlite.specs.View.{doubt}
use Rattle.sqlite.specs.Disk.{MoreFaults}
use Rattle.sqlite.specs.State.{State, HasCleanDisk, KeepsCommit}
use Rattle.sqlite.specs.declared.error.Error.{Error}
use Rattle.sqlite.specs.declared.error.Error.TheVariants.{QueryReturnedNoRows}
use Rattle.sqlite.specs.declared.types.Value.TheVariants.{Text}
use Rattle.sqlite.specs.Order.{Row}
use Rattle.ep_outside.specs.Kept.{value_at}
use Rattle.ep_outside.specs.declared.keeper.Pair.{Pair}
use Rattle.ep_keep_sql.specs.Told.{Holds}

-- nothing was committed, and the transaction goes on where the statement was not refused
pub record StepsInside (old new : State) (went : Bool) : Type 0 where
  pub clean : doubt old.is_clean ≤ doubt new.is_clean
  pub kept : HasCleanDisk new → IsTrue old.in_transaction → KeepsCommit old new
  pub goes_on : HasCleanDisk new → IsTrue old.in_transaction → IsTrue went → IsTrue new.in_transaction
  pub counts : old.faults ≤ new.faults
  pub closes : HasCleanDisk new → IsTrue old.is_open → IsTrue new.is_open ⊎ MoreFaults old.faults new.faults

abbrev pub Steps : {X : Type 0} → State → State → Result X Error → Type 0
Steps old new result = StepsInside old new (is_ok result)

-- where the database held a map and the statement was not refused, the database holds what it makes of the map
abbrev pub Makes : {X : Type 0} → State → State → (List Pair → List Pair) → Result X Error → Type 0
Makes old new change result = HasCleanDisk new → IsTrue old.in_transaction → (m : List Pair) → Holds old.now m → OnOk result (Holds new.now (change m))

-- where it is open and clean as the call ends, it sees what it saw, and the last commit is the one of before
abbrev pub Rests : State → State → Type 0
Rests old new = HasCleanDisk new → IsTrue new.is_open → (new.now ≡ old.now) × (new.committed ≡ old.committed)

-- outside a transaction it sees the last commit
abbrev pub IsSettled : State → Type 0
IsSettled s = IsTrue s.is_open → s.now ≡ s.committed

-- the query of one key was answered: by a row, or that there is none
abbrev pub IsFound : Result Row Error → Type 0
IsFound (Ok row) = Unit {0}
IsFound (Err QueryReturnedNoRows) = Unit {0}
IsFound (Err e) = ⊥

-- what the query of one key answers: a row that shows what stands there, or that there is none
abbrev pub Finds : List Pair → List ℕ → Result Row Error → Type 0
Finds m key (Ok row) = (value : List ℕ) × (row ≡ Text value ∷ []) × (value_at m key ≡ Some value)
Finds m key (Err QueryReturnedNoRows) = value_at m key ≡ None
Finds m key (Err e) = Unit {0}
