-- The newlines of texts.
use Rattle.std.specs.Prelude.{◌≡◌, ℕ, ◌+◌, Bool, true, cond, [], ◌∷◌, ◌⊎◌}
use Rattle.ep_units.specs.Text.{Text, is_newline}

abbrev pub count_lines : Text → ℕ
count_lines [] = 0
count_lines (u ∷ us) = cond (is_newline u) 1 0 + count_lines us

-- a text without a last line: empty, or ending in a newline
abbrev pub is_whole_lines : Text → Bool
is_whole_lines [] = true
is_whole_lines (u ∷ []) = is_newline u
is_whole_lines (u ∷ (v ∷ us)) = is_whole_lines (v ∷ us)

-- a text that can be one run: without newlines, or ending in one
abbrev pub IsStretch : Text → Type 0
IsStretch us = (count_lines us ≡ 0) ⊎ (is_whole_lines us ≡ true)
