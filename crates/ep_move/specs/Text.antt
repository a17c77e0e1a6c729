-- What is read of a source.
use Rattle.std.specs.Prelude.{◌≡◌, ℕ, ◌≤◌, Bool, true, false, List, [], ◌++◌, length, Option}
use Rattle.ep_outside.specs.Outside.{Gives, IsAtEnd}

-- so many bytes are read at most: one more than a text may have
abbrev pub most_read : ℕ
most_read = 268435457

-- just so many bytes were read
abbrev pub IsCut : Option (List ℕ) → Option (List ℕ) → Type 0
IsCut old new = (text : List ℕ) × (length text ≡ most_read) × Gives old new text

-- at least one byte more was read behind others, and no more than there was room for
pub record ReadsMore (old new : Option (List ℕ)) (before after : List ℕ) (room : ℕ) : Type 0 where
  pub more : List ℕ
  pub gives : Gives old new more
  pub behind : after ≡ before ++ more
  pub some : 1 ≤ length more
  pub few : length more ≤ room

-- whether there was any
abbrev pub ReadsOn : Option (List ℕ) → Option (List ℕ) → List ℕ → List ℕ → ℕ → Bool → Type 0
ReadsOn old new before after room true = ReadsMore old new before after room
ReadsOn old new before after room false = (after ≡ before) × IsAtEnd old × Gives old new []
