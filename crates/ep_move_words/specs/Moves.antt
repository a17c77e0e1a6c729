-- Which words ask for a pad to be moved.
use Rattle.std.specs.Prelude.{ℕ, ◌==◌, ◌||◌, Bool, false, List, [], ◌∷◌, codes, if◌then◌else◌, Option, Some, None}
use Rattle.std.specs.Str.{bytes_eq}
use Rattle.ep_units.specs.PadId.{is_own_id}
use Rattle.ep_units.specs.Text.{Text}
use Rattle.ep_units.specs.Utf8.{units_of}
use Rattle.ep_move_words.specs.declared.reading.Move.{Move}
use Rattle.ep_move_words.specs.declared.reading.Way.{Way}
use Rattle.ep_move_words.specs.declared.reading.Way.TheVariants as way

-- a word in UTF-8
abbrev pub Word : Type 0
Word = List ℕ

-- which way a pad is moved, of which folder, and its id
pub record Asked : Type 0 where
  pub way : Way
  pub dir : Word
  pub id : Text

-- what a move in code is
abbrev pub asked_of : Move → Asked
asked_of m = record { way = m.way; dir = m.dir.now; id = m.pad }

-- `export` or `import`
abbrev pub way_in : Word → Option Way
way_in word = if bytes_eq word (codes "export") then Some way.Out else (if bytes_eq word (codes "import") then Some way.In else None)

-- it begins with `-`
abbrev pub is_dash : Word → Bool
is_dash [] = false
is_dash (b ∷ bs) = b == 45

-- the way of a first word behind which neither begins with `-`
abbrev pub may_be : Word → Word → Word → Option Way
may_be first dir pad = if is_dash dir || is_dash pad then None else way_in first

-- a pad's own id, of a group or none
abbrev pub id_in : Text → Option Text
id_in id = if is_own_id id then Some id else None

-- both have to be there
abbrev pub asked_by : Option Way → Word → Option Text → Option Asked
asked_by (Some way) dir (Some id) = Some (record { way = way; dir = dir; id = id })
asked_by (Some way) dir None = None
asked_by None dir id = None

-- what the words ask for, if it is a move: `export DIR PAD` or `import DIR PAD`
abbrev pub asked_in : List Word → Option Asked
asked_in (first ∷ (dir ∷ (pad ∷ []))) = asked_by (may_be first dir pad) dir (id_in (units_of pad))
asked_in words = None
