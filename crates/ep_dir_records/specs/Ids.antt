-- New ids.
use Rattle.std.specs.Prelude.{ℕ, ◌/◌, ◌%◌, ◌^◌, List, [], ◌∷◌, ◌++◌, map}
use Rattle.ep_units.specs.Text.{Text}
use Rattle.ep_units.specs.Base36.{digit}
use Rattle.ep_dir_records.specs.declared.ids.IdKind.{IdKind}
use Rattle.ep_dir_records.specs.declared.ids.IdKind.TheVariants.{Group, Author, Session, ReadOnly}

-- how many ids there are: as many as six digits of base 36 tell apart
abbrev pub most_ids : ℕ
most_ids = 36 ^ 6

-- the letter of a kind: g, a, s and r
abbrev pub letter : IdKind → ℕ
letter Group = 103
letter Author = 97
letter Session = 115
letter ReadOnly = 114

-- `.`
abbrev pub dot : ℕ
dot = 46

-- a number in six digits of base 36
abbrev pub six_digits : ℕ → Text
six_digits n =
    digit (n / 36 ^ 5 % 36) ∷ digit (n / 36 ^ 4 % 36) ∷ digit (n / 36 ^ 3 % 36) ∷ digit (n / 36 ^ 2 % 36) ∷ digit (n / 36 % 36) ∷ digit (n % 36) ∷ []

-- an id: its kind's letter, a dot, the ten draws, and the count of ids given before it
abbrev pub id_of : IdKind → List ℕ → ℕ → Text
id_of kind drawn n = letter kind ∷ dot ∷ (map digit drawn ++ six_digits n)
