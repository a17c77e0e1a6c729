-- Texts, names and numbers as a script writes them.
use Rattle.std.specs.Prelude.{◌≡◌, ℕ, ◌-◌, Bool, true, false, ◌==◌, ◌&&◌, nat_le, nat_lt, slice_index, if◌then◌else◌, List, [], ◌∷◌, length, Option, Some, None}
use Rattle.std.specs.List.{list_all}
use Rattle.std.specs.Option.{option_map}
use Rattle.std.specs.Char.{is_ascii_alphabetic, is_ascii_alphanumeric}
use Rattle.std.specs.Str.{all_ascii_digits}
use Rattle.std.specs.Str.Parse.{digits_value}
use Rattle.ep_units.specs.Text.{Text, is_well_formed}

-- ---- texts

-- what stands behind a backslash: n for LF, t for a tab, or a backslash
abbrev pub escape : ℕ → Option ℕ
escape c = if c == 110 then Some 10 else (if c == 116 then Some 9 else (if c == 92 then Some 92 else None))

abbrev pub before : Option ℕ → Option Text → Option Text
before None rest = None
before (Some u) rest = option_map (λ us. u ∷ us) rest

-- the text that is written so, if one is; `behind_backslash` says that a backslash stands before it
abbrev pub unescaped_from : Bool → Text → Option Text
unescaped_from false [] = Some []
unescaped_from true [] = None
unescaped_from false (u ∷ us) = if u == 92 then unescaped_from true us else before (Some u) (unescaped_from false us)
unescaped_from true (u ∷ us) = before (escape u) (unescaped_from false us)

abbrev pub unescaped : Text → Option Text
unescaped us = unescaped_from false us

-- no half of a pair stands alone
abbrev pub IsText : Text → Type 0
IsText us = is_well_formed us ≡ true

-- ---- names

-- a letter first, and at most 16 letters or digits
abbrev pub is_name : List ℕ → Bool
is_name bs = is_ascii_alphabetic (slice_index bs 0) && (nat_le (length bs) 16 && list_all is_ascii_alphanumeric bs)

-- ---- numbers

-- decimal digits, one or more
abbrev pub is_numeral : List ℕ → Bool
is_numeral [] = false
is_numeral (b ∷ bs) = all_ascii_digits (b ∷ bs)

-- the number below the limit that decimal digits say
abbrev pub number_below : ℕ → List ℕ → Option ℕ
number_below limit bs = if is_numeral bs && nat_lt (digits_value 10 bs) limit then Some (digits_value 10 bs) else None

-- one of the digits 0 to 9 and a to f
abbrev pub hex_digit : ℕ → Option ℕ
hex_digit c =
    if nat_le 48 c && nat_le c 57 then Some (c - 48)
    else (if nat_le 97 c && nat_le c 102 then Some (c - 87) else None)
