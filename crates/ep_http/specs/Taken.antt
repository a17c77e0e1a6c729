-- What was taken of a source, and that it failed.
use Rattle.std.specs.Prelude.{ℕ, ◌≡◌, ◌≤◌, List, length, Option}
use Rattle.ep_outside.specs.Outside.{Gives, HasRisen}

-- the source gave these bytes, which are at most so many
abbrev pub GivesAtMost : ℕ → Option (List ℕ) → Option (List ℕ) → List ℕ → Type 0
GivesAtMost most old new bytes = Gives old new bytes × (length bytes ≤ most)

-- the source failed now, and has this count of faults
abbrev pub HasFailed : ℕ → ℕ → ℕ → Type 0
HasFailed before now n = HasRisen before now × (n ≡ now)
