-- Working words of private contracts: what the steps say that take pieces of a source.
use Rattle.std.specs.Prelude.{ℕ, ◌≡◌, ◌+◌, ◌<◌, ◌≤◌, max, Bool, true, false, List, [], ◌++◌, length, Option, Result, Ok, Err}
use Rattle.ep_outside.specs.Outside.{Gives, IsAtEnd}
use Rattle.ep_http.specs.Taken.{HasFailed}
use Rattle.ep_http.specs.declared.bad.HttpBad.{HttpBad}
use Rattle.ep_http.specs.declared.bad.HttpBad.TheVariants as bad

-- at most so many bytes were added, at least one
pub record Adds (old new : Option (List ℕ)) (bytes more : List ℕ) (most : ℕ) : Type 0 where
  pub piece : List ℕ
  pub gives : Gives old new piece
  pub whole : more ≡ bytes ++ piece
  pub some : 1 ≤ length piece
  pub within : length piece ≤ most

-- nothing was added
pub record AddsNone (old new : Option (List ℕ)) (bytes more : List ℕ) : Type 0 where
  pub gives : Gives old new []
  pub same : more ≡ bytes

-- why nothing was added
abbrev pub FailsToTake : Option (List ℕ) → Option (List ℕ) → ℕ → ℕ → List ℕ → List ℕ → HttpBad → Type 0
FailsToTake old new before now bytes more (bad.Read n) = AddsNone old new bytes more × HasFailed before now n
FailsToTake old new before now bytes more bad.NoMemory = Unit {0}
FailsToTake old new before now bytes more _ = ⊥

-- a piece was added, or the source is at its end, or it failed
abbrev pub TakesPiece : Option (List ℕ) → Option (List ℕ) → ℕ → ℕ → List ℕ → List ℕ → ℕ → Result Bool HttpBad → Type 0
TakesPiece old new before now bytes more most (Ok true) = Adds old new bytes more most
TakesPiece old new before now bytes more most (Ok false) = AddsNone old new bytes more × IsAtEnd old
TakesPiece old new before now bytes more most (Err why) = FailsToTake old new before now bytes more why

-- some bytes were added
pub record Grows (old new : Option (List ℕ)) (bytes more : List ℕ) : Type 0 where
  pub piece : List ℕ
  pub gives : Gives old new piece
  pub whole : more ≡ bytes ++ piece

-- fewer bytes stand behind the start, and why
abbrev pub FailsToRead : Option (List ℕ) → Option (List ℕ) → ℕ → ℕ → List ℕ → List ℕ → ℕ → ℕ → HttpBad → Type 0
FailsToRead old new before now bytes more start long bad.Short = Grows old new bytes more × (length more < start + long) × IsAtEnd new
FailsToRead old new before now bytes more start long (bad.Read n) = Grows old new bytes more × (length more < start + long) × HasFailed before now n
FailsToRead old new before now bytes more start long bad.NoMemory = Unit {0}
FailsToRead old new before now bytes more start long _ = ⊥

-- behind the start stand so many bytes, and none was taken that wasn't wanted
pub record ReadsAll (old new : Option (List ℕ)) (bytes more : List ℕ) (start long : ℕ) : Type 0 where
  pub grows : Grows old new bytes more
  pub whole : start + long ≤ length more
  pub within : length more ≤ max (length bytes) (start + long)

-- behind the start stand so many bytes, or fewer and why
abbrev pub ReadsOn : Option (List ℕ) → Option (List ℕ) → ℕ → ℕ → List ℕ → List ℕ → ℕ → ℕ → Result (Unit {0}) HttpBad → Type 0
ReadsOn old new before now bytes more start long (Ok _) = ReadsAll old new bytes more start long
ReadsOn old new before now bytes more start long (Err why) = FailsToRead old new before now bytes more start long why
