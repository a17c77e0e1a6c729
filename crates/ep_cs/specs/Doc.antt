-- Documents: units, each with its attributes.
use Rattle.std.specs.Prelude.{ℕ, Bool, true, not, ◌&&◌, ◌||◌, List, [], ◌∷◌, map}
use Rattle.ep_units.specs.Text.{Text, is_high, is_well_formed}
use Rattle.ep_attr.specs.AttrMap.{AttrMap, after, same_map}

pub record Cell : Type 0 where
  pub unit : ℕ
  pub attrs : AttrMap

abbrev pub Doc : Type 0
Doc = List Cell

abbrev pub text_of : Doc → Text
text_of d = map (λ c. c.unit) d

-- the cell after a change's map
abbrev pub painted : Cell → AttrMap → Cell
painted c m = record { unit = c.unit; attrs = after c.attrs m }

-- the halves of each pair have equal maps
abbrev pub has_equal_halves : Doc → Bool
has_equal_halves [] = true
has_equal_halves (c ∷ []) = true
has_equal_halves (c ∷ (d ∷ ds)) = (not (is_high c.unit) || same_map c.attrs d.attrs) && has_equal_halves (d ∷ ds)

abbrev pub is_document : Doc → Bool
is_document d = is_well_formed (text_of d) && has_equal_halves d
