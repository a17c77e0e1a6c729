-- Documents as stretches of units, each with one map.
use Rattle.std.specs.Prelude.{◌≡◌, ◌⊎◌, ℕ, ◌+◌, ◌≤◌, List, [], ◌∷◌, ◌++◌, length, take, drop, if◌then◌else◌}
use Rattle.ep_units.specs.Text.{Text}
use Rattle.ep_attr.specs.AttrMap.{same_map}
use Rattle.ep_cs.specs.Doc.{Cell, text_of}
use Rattle.ep_cs.specs.Runs.{cells}
use Rattle.ep_block_parts.specs.declared.span.Span.{Span}

-- the cells of these stretches, whose units stand in a text in order
abbrev pub cells_of : List Span → Text → List Cell
cells_of [] us = []
cells_of (s ∷ ss) us = cells s.attrs (take s.units us) ++ cells_of ss (drop s.units us)

abbrev pub all_units : List Span → ℕ
all_units [] = 0
all_units (s ∷ ss) = s.units + all_units ss

-- no stretch is empty
abbrev pub AreSpans : List Span → Type 0
AreSpans [] = Unit {0}
AreSpans (s ∷ ss) = (1 ≤ s.units) × AreSpans ss

-- one stretch more, joined to the last where both have one map
abbrev pub joined_on : List Span → Span → List Span
joined_on [] s = s ∷ []
joined_on (t ∷ []) s = if same_map t.attrs s.attrs then record { units = t.units + s.units; attrs = s.attrs } ∷ [] else (t ∷ (s ∷ []))
joined_on (t ∷ (u ∷ ss)) s = t ∷ joined_on (u ∷ ss) s

-- a stretch is added, joined to the last or not
abbrev pub Adds : List Span → Span → List Span → Type 0
Adds ss s ts = (ts ≡ joined_on ss s) ⊎ (ts ≡ ss ++ s ∷ [])

-- stretches are added that stand for these cells
pub record AddsCells (ss : List Span) (cs : List Cell) (ts : List Span) : Type 0 where
  pub units : all_units ts ≡ all_units ss + length cs
  pub spans : AreSpans ss → AreSpans ts
  pub stand : (us : Text) → all_units ss ≡ length us → cells_of ts (us ++ text_of cs) ≡ cells_of ss us ++ cs

abbrev pub first_units : List Span → ℕ
first_units [] = 0
first_units (s ∷ ss) = s.units

-- what is left of stretches, where so many units of the first are left
abbrev pub left_of : List Span → ℕ → Text → List Cell
left_of [] left us = []
left_of (s ∷ ss) left us = cells s.attrs (take left us) ++ cells_of ss (drop left us)

abbrev pub left_units : List Span → ℕ → ℕ
left_units [] left = 0
left_units (s ∷ ss) left = left + all_units ss

abbrev pub AreLeft : List Span → ℕ → Type 0
AreLeft [] left = Unit {0}
AreLeft (s ∷ ss) left = (1 ≤ left) × AreSpans ss
