-- Numbers as decimal digits, leading zeros allowed.
use Rattle.std.specs.Prelude.{ℕ, ◌^◌, nat_le, nat_lt, Bool, false, ◌&&◌, List, [], ◌∷◌, if◌then◌else◌, Option, Some, None}
use Rattle.std.specs.Str.{all_ascii_digits}
use Rattle.std.specs.Str.Parse.{digits_value}

-- decimal digits, one or more
abbrev pub is_numeral : List ℕ → Bool
is_numeral [] = false
is_numeral (b ∷ bs) = all_ascii_digits (b ∷ bs)

-- the number below 2 ^ 64 that decimal digits say
abbrev pub number_in : List ℕ → Option ℕ
number_in text = if is_numeral text && nat_lt (digits_value 10 text) (2 ^ 64) then Some (digits_value 10 text) else None

-- a number within these bounds
abbrev pub between : ℕ → ℕ → Option ℕ → Option ℕ
between least most None = None
between least most (Some n) = if nat_le least n && nat_le n most then Some n else None

-- the number that decimal digits say, where it is within these bounds
abbrev pub number_within : ℕ → ℕ → List ℕ → Option ℕ
number_within least most text = between least most (number_in text)
