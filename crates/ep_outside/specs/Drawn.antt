-- Numbers drawn one by one from a list that is told.
use Rattle.std.specs.Prelude.{ℕ, ◌≡◌, List, [], ◌∷◌, Option, Some, None}

-- the number is the first of those to come, and the others are still to come
abbrev pub Draws : Option (List ℕ) → Option (List ℕ) → ℕ → Type 0
Draws None now n = now ≡ None
Draws (Some []) now n = now ≡ Some []
Draws (Some (x ∷ xs)) now n = (n ≡ x) × (now ≡ Some xs)
