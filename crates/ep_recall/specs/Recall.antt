-- Values kept under their numbers.
use Rattle.std.specs.Prelude.{◌≡◌, ℕ, List, Contains}

-- each value with its number, and how many there may be
pub record Kept (T : Type 0) : Type 0 where
  pub entries : List (ℕ × T)
  pub most : ℕ

-- it has this value under this number
abbrev pub Has : {T : Type 0} → Kept T → ℕ → T → Type 0
Has k number value = Contains k.entries (number, value)
