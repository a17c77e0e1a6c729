-- How a call's answer goes with the keeper's map, where it tells.
use Rattle.std.specs.Prelude.{ℕ, ◌≡◌, ◌≤◌, Bool, true, List, [], Option, Some, Result, Ok, Err}
use Rattle.ep_outside.specs.declared.keeper.Pair.{Pair}
use Rattle.ep_outside.specs.declared.keeper.Put.{Put}
use Rattle.ep_outside.specs.Kept.{IsTold, after}
use Rattle.ep_outside.specs.Outside.{HasRisen}
use Rattle.ep_dir_records.specs.declared.dir_bad.DirBad.{DirBad}
use Rattle.ep_dir_records.specs.declared.dir_bad.DirBad.TheVariants.{NoGroup, NoAuthor, NoSession, Past, BadName, Keeper, IdsSpent, Denied, Kept, NoMemory}

-- the ? of the logic: a refusal comes before what would follow
infixl 10 ◌>>=◌
abbrev pub ◌>>=◌ : {A B : Type 0} → Result A DirBad → (A → Result B DirBad) → Result B DirBad
Ok x >>= f = f x
Err e >>= f = Err e

-- the same where nothing of what is found is asked for
infixl 10 ◌>>◌
abbrev pub ◌>>◌ : {A B : Type 0} → Result A DirBad → Result B DirBad → Result B DirBad
r >> next = r >>= (λ _. next)

-- the refusal is the directory's own: none of the keeper's, and not for memory
abbrev pub IsOwn : DirBad → Type 0
IsOwn (Keeper n) = ⊥
IsOwn NoMemory = ⊥
IsOwn NoGroup = Unit {0}
IsOwn NoAuthor = Unit {0}
IsOwn NoSession = Unit {0}
IsOwn (Past now) = Unit {0}
IsOwn BadName = Unit {0}
IsOwn IdsSpent = Unit {0}
IsOwn (Denied rule) = Unit {0}
IsOwn (Kept key) = Unit {0}

-- what is seen of a directory: its keeper's map, where the keeper tells it, whether it always does, the count of its faults, and whether it never has one
pub record Seen : Type 0 where
  pub told : Option (List Pair)
  pub always_tells : Bool
  pub failures : ℕ
  pub is_steady : Bool

-- the map is told, where the keeper always tells it
abbrev pub Tells : Seen → Type 0
Tells s = s.always_tells ≡ true → IsTold s.told

-- the count never falls, a fault of the keeper is answered only where it rose, and the keeper's marks stay
pub record Counts {A : Type 0} (old now : Seen) (result : Result A DirBad) : Type 0 where
  pub later : old.failures ≤ now.failures
  pub fault : (n : ℕ) → result ≡ Err (Keeper n) → (n ≡ now.failures) × HasRisen old.failures now.failures
  pub steady : now.is_steady ≡ old.is_steady
  pub telling : now.always_tells ≡ old.always_tells

-- the result is what the map asks for, save for a fault or want of memory
abbrev pub Says : {A : Type 0} → Result A DirBad → Result A DirBad → Type 0
Says asked (Ok x) = asked ≡ Ok x
Says asked (Err e) = IsOwn e → asked ≡ Err e

-- a reading: where a map is told afterwards, it is the one of before, and the result is what it asks for
pub record Reads {A : Type 0} (old now : Seen) (asked : List Pair → Result A DirBad) (result : Result A DirBad) : Type 0 where
  pub counts : Counts old now result
  pub told : (m : List Pair) → now.told ≡ Some m → (old.told ≡ Some m) × Says (asked m) result

-- what a result makes of a map: the puts that it asks for where it is Ok, else nothing
abbrev pub Makes : {A : Type 0} → Result (A × List Put) DirBad → List Pair → Result A DirBad → List Pair → Type 0
Makes asked m (Ok x) n = (puts : List Put) × (asked ≡ Ok (x, puts)) × (n ≡ after m puts)
Makes asked m (Err e) n = (n ≡ m) × (IsOwn e → asked ≡ Err e)

-- a call: where a map is told afterwards, it is what the call makes of the one of before, with its answer
pub record Answers {A : Type 0} (old now : Seen) (asked : List Pair → Result (A × List Put) DirBad) (result : Result A DirBad) : Type 0 where
  pub counts : Counts old now result
  pub told : (n : List Pair) → now.told ≡ Some n → (m : List Pair) × (old.told ≡ Some m) × Makes (asked m) m result n

-- a call that puts nothing
abbrev pub only : {A : Type 0} → (List Pair → Result A DirBad) → List Pair → Result (A × List Put) DirBad
only f m = do
  x ← f m
  Ok (x, [])
