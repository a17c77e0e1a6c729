-- What is drawn for a round of a schedule: which client, and what it does.
use Rattle.std.specs.Prelude.{ℕ, ◌-◌, ◌+◌, ◌==◌, nat_lt, if◌then◌else◌, [], ◌∷◌, ◌++◌, codes}
use Rattle.std.specs.Fmt.{decimal}
use Rattle.ep_units.specs.Text.{Text}
use Rattle.ep_units.specs.Utf8.{units_of}
use Rattle.ep_event.specs.declared.event.Local.{Local}
use Rattle.ep_event.specs.declared.event.Local.TheVariants.{Insert, Delete}
use Rattle.ep_make.specs.Generator.{following, pick}

-- client k is `c` and its number
abbrev pub name_of : ℕ → Text
name_of k = units_of (codes "c" ++ decimal k)

-- the letter k places behind `a`
abbrev pub letter : ℕ → Text
letter k = (97 + k) ∷ []

-- a letter is inserted into so many units; its place is drawn first
abbrev pub insertion : ℕ → ℕ → Local
insertion units x = Insert (pick units x) (letter (pick 26 (following x)))

-- one of so many units is deleted, but never the last
abbrev pub deletion : ℕ → ℕ → Local
deletion units x = Delete (pick (units - 1) x) 1

-- What a client does to so many units, and the last number then. Where it sees fewer than 2 it inserts. Else it is drawn
-- what it does: a deletion once in four times.
abbrev pub drawn_edit : ℕ → ℕ → Local × ℕ
drawn_edit units x =
    if nat_lt units 2 then (insertion units x, following (following x))
    else if pick 4 x == 0 then (deletion units (following x), following (following x))
    else (insertion units (following x), following (following (following x)))
