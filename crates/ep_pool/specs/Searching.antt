-- Working words of private contracts: no public clause cites them.
use Rattle.std.specs.Prelude.{ℕ, Bool, true, nat_lt, Option, Some, None}

-- the number is below the one that was found, if one was
abbrev pub is_before : ℕ → Option ℕ → Bool
is_before k None = true
is_before k (Some m) = nat_lt k m
