-- Texts and changes as they are printed.
use Rattle.std.specs.Prelude.{ℕ, ◌==◌, if◌then◌else◌, List, [], ◌∷◌, ◌++◌}
use Rattle.std.specs.List.{flat_map}
use Rattle.ep_units.specs.Text.{Text}
use Rattle.ep_units.specs.Utf8.{utf8_of}
use Rattle.ep_cs.specs.Change.{Change}
use Rattle.ep_csread.specs.Spelling.{pairs_named, printed}

-- backslash, LF, tab and double quote as they are written out
abbrev pub written : ℕ → Text
written u =
    if u == 92 then 92 ∷ 92 ∷ []
    else (if u == 10 then 92 ∷ 110 ∷ [] else (if u == 9 then 92 ∷ 116 ∷ [] else (if u == 34 then 92 ∷ 34 ∷ [] else u ∷ [])))

abbrev pub escaped : Text → Text
escaped us = flat_map written us

abbrev pub text_out : Text → List ℕ
text_out us = utf8_of (escaped us)

-- in double quotes
abbrev pub quoted : Text → List ℕ
quoted us = 34 ∷ (text_out us ++ 34 ∷ [])

-- a change in normal form, with the numbers of its wire pool
abbrev pub change_out : Change → List ℕ
change_out c = text_out (printed (pairs_named c.runs) c)
