-- Numbers drawn for an id.
use Rattle.std.specs.Prelude.{ℕ, ◌≡◌, ◌%◌, List, [], ◌∷◌, Option}
use Rattle.ep_outside.specs.Drawn.{Draws}

-- a number that is drawn, modulo 36
abbrev pub DrawsDigit : Option (List ℕ) → Option (List ℕ) → ℕ → Type 0
DrawsDigit before now digit = (n : ℕ) × Draws before now n × (digit ≡ n % 36)

-- these are drawn one after the other
abbrev pub DrawsAll : Option (List ℕ) → Option (List ℕ) → List ℕ → Type 0
DrawsAll before now [] = now ≡ before
DrawsAll before now (digit ∷ digits) = (mid : Option (List ℕ)) × DrawsDigit before mid digit × DrawsAll mid now digits
