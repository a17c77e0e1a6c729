-- Halves of pairs that stand alone.
use Rattle.std.specs.Prelude.{ℕ, suc, Bool, false, cond, not, ◌&&◌, ◌||◌, [], ◌∷◌, Option, Some, None}
use Rattle.ep_units.specs.Text.{Text, is_high, is_low}

abbrev pub begins_low : Text → Bool
begins_low [] = false
begins_low (u ∷ us) = is_low u

-- the place of the first half that stands alone, counted from `at`; `paired` says that the unit before the text is a first half
abbrev pub lone_from : ℕ → Bool → Text → Option ℕ
lone_from at paired [] = None
lone_from at paired (u ∷ us) =
    cond ((is_low u && not paired) || (is_high u && not (begins_low us))) (Some at) (lone_from (suc at) (is_high u) us)

-- the place of the first half that stands alone
abbrev pub first_lone : Text → Option ℕ
first_lone us = lone_from 0 false us
