-- Texts: lists of UTF-16 units, numbers below 65,536.
use Rattle.std.specs.Prelude.{ℕ, Bool, false, cond, not, ◌&&◌, List, [], ◌∷◌, nat_le, nat_lt, ◌==◌}
use Rattle.std.specs.declared.cmp.Ordering.{Ordering}
use Rattle.std.specs.Ordering.{nat_cmp, is_le, is_eq}
use Rattle.std.specs.Cmp.Lexicographic.{slice_cmp}

abbrev pub Text : Type 0
Text = List ℕ

-- the first half of a pair
abbrev pub is_high : ℕ → Bool
is_high u = nat_le 55296 u && nat_lt u 56320

-- the second half of a pair
abbrev pub is_low : ℕ → Bool
is_low u = nat_le 56320 u && nat_lt u 57344

-- each unit is a second half exactly where the one before it is a first half; `half` says that the unit before the text is one
abbrev pub is_paired : Bool → Text → Bool
is_paired half [] = not half
is_paired half (u ∷ us) = cond half (is_low u) (not (is_low u)) && is_paired (is_high u) us

-- no half stands alone
abbrev pub is_well_formed : Text → Bool
is_well_formed us = is_paired false us

-- texts are ordered unit by unit
abbrev pub text_cmp : Text → Text → Ordering
text_cmp = slice_cmp nat_cmp

abbrev pub text_eq : Text → Text → Bool
text_eq a b = is_eq (text_cmp a b)

abbrev pub text_le : Text → Text → Bool
text_le a b = is_le (text_cmp a b)

abbrev pub is_newline : ℕ → Bool
is_newline u = u == 10

-- its last unit is a newline
abbrev pub ends_in_newline : Text → Bool
ends_in_newline [] = false
ends_in_newline (u ∷ []) = is_newline u
ends_in_newline (u ∷ (v ∷ us)) = ends_in_newline (v ∷ us)
