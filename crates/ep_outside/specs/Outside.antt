-- The outside, by what it holds or has left where it tells, and by its counts of faults.
use Rattle.std.specs.Prelude.{ℕ, ◌≡◌, ◌+◌, ◌-◌, ◌^◌, ◌<◌, ◌≤◌, max, min, Bool, List, [], ◌++◌, length, take, Option, Some, None}
use Rattle.ep_outside.specs.declared.source.Got.{Got}
use Rattle.ep_outside.specs.declared.source.Got.TheVariants.{Bytes, End, Failed}

-- a count one higher, which stands still at the greatest of 64 bits
abbrev pub risen : ℕ → ℕ
risen n = max n (min (n + 1) (2 ^ 64 - 1))

-- the count rose, or stands at its greatest number
abbrev pub HasRisen : ℕ → ℕ → Type 0
HasRisen before now = risen before ≤ now

-- Of a device's call: its count of faults never falls, the call fails only where the count rose, and the mark of a device that never fails stays.
pub record HasCause (before now : ℕ) (was is : Bool) (Fails : Type 0) : Type 0 where
  pub later : before ≤ now
  pub failed : Fails → HasRisen before now
  pub steady : is ≡ was

-- what was there is the text and then what is there now
abbrev pub Gives : Option (List ℕ) → Option (List ℕ) → List ℕ → Type 0
Gives None None text = Unit {0}
Gives (Some xs) (Some ys) text = xs ≡ text ++ ys
Gives None (Some ys) text = ⊥
Gives (Some xs) None text = ⊥

abbrev pub IsAtEnd : Option (List ℕ) → Type 0
IsAtEnd None = Unit {0}
IsAtEnd (Some xs) = xs ≡ []

-- what a read took, and put into the room
abbrev pub Reads : Option (List ℕ) → Option (List ℕ) → Got → List ℕ → Type 0
Reads old new (Bytes n) room = (1 ≤ n) × (n ≤ length room) × Gives old new (take n room)
Reads old new End room = Gives old new [] × IsAtEnd old
Reads old new Failed room = Gives old new []

-- what is there now is what was there and then the bytes
abbrev pub Takes : Option (List ℕ) → Option (List ℕ) → List ℕ → Type 0
Takes None None bytes = Unit {0}
Takes (Some xs) (Some ys) bytes = ys ≡ xs ++ bytes
Takes None (Some ys) bytes = ⊥
Takes (Some xs) None bytes = ⊥

-- of the bytes all but the rest were taken
pub record TakesAllBut (old new : Option (List ℕ)) (bytes rest : List ℕ) : Type 0 where
  pub gone : List ℕ
  pub whole : bytes ≡ gone ++ rest
  pub takes : Takes old new gone

-- a beginning of the bytes was taken
abbrev pub TakesPart : Option (List ℕ) → Option (List ℕ) → List ℕ → Type 0
TakesPart old new bytes = (rest : List ℕ) × TakesAllBut old new bytes rest

-- all of the text was read
abbrev pub IsWhole : Option (List ℕ) → Option (List ℕ) → List ℕ → Type 0
IsWhole None None text = Unit {0}
IsWhole (Some xs) (Some ys) text = (xs ≡ text) × (ys ≡ [])
IsWhole None (Some ys) text = ⊥
IsWhole (Some xs) None text = ⊥

abbrev pub IsAbove : ℕ → Option (List ℕ) → Type 0
IsAbove n None = Unit {0}
IsAbove n (Some xs) = n < length xs
