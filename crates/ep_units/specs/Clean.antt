-- How the text of a new pad is cleaned.
use Rattle.std.specs.Prelude.{ℕ, Bool, false, ◌==◌, if◌then◌else◌, [], ◌∷◌, ◌++◌, replicate}
use Rattle.ep_units.specs.Text.{Text}

abbrev pub begins_with : ℕ → Text → Bool
begins_with u [] = false
begins_with u (v ∷ us) = v == u

-- CR LF and CR become LF, a tab becomes eight spaces, and U+00A0 a space
abbrev pub clean : Text → Text
clean [] = []
clean (u ∷ us) =
    if u == 13 then (if begins_with 10 us then clean us else 10 ∷ clean us)
    else (if u == 9 then replicate 8 32 ++ clean us else (if u == 160 then 32 ∷ clean us else u ∷ clean us))
