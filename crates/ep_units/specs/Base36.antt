-- Numbers in base 36, by which changeset text writes each of its numbers.
use Rattle.std.specs.Prelude.{ℕ, zero, suc, ◌+◌, ◌-◌, ◌*◌, ◌/◌, ◌%◌, Bool, cond, if◌then◌else◌, ◌==◌, ◌&&◌, ◌||◌, [], ◌∷◌, ◌++◌, nat_lt, nat_le, length, drop, Option, Some, None, option_map, fold}
use Rattle.ep_units.specs.Text.{Text}

-- 0 to 9, then a to z
abbrev pub digit : ℕ → ℕ
digit d = cond (nat_lt d 10) (48 + d) (87 + d)

-- the digits of a number, the highest first; each step leaves less than before, so n + 1 steps are enough
abbrev pub digits_in : ℕ → ℕ → Text
digits_in zero n = []
digits_in (suc k) n = cond (nat_lt n 36) (digit n ∷ []) (digits_in k (n / 36) ++ digit (n % 36) ∷ [])

-- the shortest spelling of a number
unfoldable pub write36 : ℕ → Text
write36 n = digits_in (suc n) n

-- 0 to 9 and a to z, and no capital
abbrev pub is_digit : ℕ → Bool
is_digit u = (nat_le 48 u && nat_le u 57) || (nat_le 97 u && nat_le u 122)

-- the value of a digit
abbrev pub digit_value : ℕ → ℕ
digit_value u = if nat_le u 57 then u - 48 else u - 87

-- the number that digits spell, the highest first
abbrev pub value36 : Text → ℕ
value36 digits = fold (λ value u. value * 36 + digit_value u) 0 digits

-- the greatest number that is read
abbrev pub most_read : ℕ
most_read = 4294967295

-- the number that digits spell, unless it is above what is read
abbrev pub number_read : Text → Option ℕ
number_read digits = if nat_lt most_read (value36 digits) then None else Some (value36 digits)

-- the digits that a text begins with
abbrev pub digits_of : Text → Text
digits_of [] = []
digits_of (u ∷ us) = cond (is_digit u) (u ∷ digits_of us) []

-- what stands behind them
abbrev pub behind : Text → Text
behind [] = []
behind (u ∷ us) = cond (is_digit u) (behind us) (u ∷ us)

-- the whole run of digits that begins at a place
abbrev pub digits_at : Text → ℕ → Text
digits_at us at = digits_of (drop at us)

-- a run of digits at a place, as its number and the place behind it: none without a digit, or where the number is above what is read
abbrev pub number_of : Text → ℕ → Option (ℕ × ℕ)
number_of digits at = if length digits == 0 then None else option_map (λ n. (n, at + length digits)) (number_read digits)

-- the number that begins at a place, and the place behind it
unfoldable pub read36 : Text → ℕ → Option (ℕ × ℕ)
read36 us at = number_of (digits_at us at) at
