-- What two stretches that begin alike have in common.
use Rattle.std.specs.Prelude.{◌≡◌, ℕ, ◌<◌, ◌≤◌, ◌⊎◌}

-- k units with j newlines are the shorter one of n units with lo newlines and m units with lp
abbrev pub IsShorter : ℕ → ℕ → ℕ → ℕ → ℕ → ℕ → Type 0
IsShorter k j n lo m lp = ((k < n) × (k ≡ m) × (j ≡ lp)) ⊎ ((k ≡ n) × (k ≤ m) × (j ≡ lo))
