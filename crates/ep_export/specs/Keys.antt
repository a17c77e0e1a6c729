-- The names of the members of a pad's exported history.
use Rattle.std.specs.Prelude.{ℕ, List, ◌++◌, codes, decimal}
use Rattle.ep_units.specs.Text.{Text}
use Rattle.ep_units.specs.Utf8.{utf8_of}

-- what the pad is stands under `pad:` and its id
abbrev pub pad_key : Text → List ℕ
pad_key id = codes "pad:" ++ utf8_of id

-- each revision behind that, by its number
abbrev pub rev_key : List ℕ → ℕ → List ℕ
rev_key key n = key ++ (codes ":revs:" ++ decimal n)
