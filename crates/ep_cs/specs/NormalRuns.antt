-- Normal form, as a fact about a run and the next.
use Rattle.std.specs.Prelude.{◌≡◌, ℕ, ◌+◌, ◌≤◌, ◌<◌, ◌^◌, Bool, true, false, not, ◌&&◌, List, [], ◌∷◌, length, take, drop, ◌⊎◌}
use Rattle.ep_units.specs.Text.{Text}
use Rattle.ep_attr.specs.AttrMap.{AttrMap, none, after}
use Rattle.ep_cs.specs.declared.op.Kind.{Kind}
use Rattle.ep_cs.specs.declared.op.Kind.TheVariants as kind
use Rattle.ep_cs.specs.declared.op.Op.{Op}
use Rattle.ep_cs.specs.Runs.{inserted, passed, all_passed}
use Rattle.ep_cs.specs.Normal.{joins, is_bare}
use Rattle.ep_cs.specs.Change.{Change, change_of, newlines, bank_of}
use Rattle.ep_cs.specs.Spelling.{old_len, new_len}
use Rattle.ep_cs.specs.Fits.{AreDocuments}

abbrev pub is_insert_then_drop : Kind → Kind → Bool
is_insert_then_drop kind.Insert kind.Drop = true
is_insert_then_drop _ _ = false

-- a run may stand before these
abbrev pub precedes : Op → List Op → Bool
precedes o [] = not (is_bare o)
precedes o (p ∷ ps) = not (joins o p) && not (is_insert_then_drop o.kind p.kind)

-- units hold so many newlines, the last of them at the end
abbrev pub IsLined : ℕ → List ℕ → Type 0
IsLined lines [] = ⊥
IsLined lines (m ∷ []) = lines ≡ m
IsLined lines (m ∷ (k ∷ ms)) = (rest : ℕ) × (lines ≡ m + rest) × ((m ≡ 0) ⊎ (1 ≤ rest)) × IsLined rest (k ∷ ms)

-- a run by itself: it has units, and the text that it inserts has its newlines, the last of them at its end
abbrev pub IsRun : Kind → ℕ → ℕ → AttrMap → Text → Type 0
IsRun kind.Keep n lines m text = 1 ≤ n
IsRun kind.Drop n lines m text = (1 ≤ n) × (m ≡ none)
IsRun kind.Insert n lines m text = (length text ≡ n) × IsLined lines (newlines text) × (m ≡ after none m)

-- runs in normal form
abbrev pub AreNormal : List Op → Text → Type 0
AreNormal [] bank = bank ≡ []
AreNormal (o ∷ os) bank = IsRun o.kind o.units o.lines o.attrs (take (inserted o.kind o.units) bank) × (precedes o os ≡ true) × AreNormal os (drop (inserted o.kind o.units) bank)

-- no run has more newlines than units
abbrev pub AreLined : List Op → Type 0
AreLined [] = Unit {0}
AreLined (o ∷ os) = (o.lines ≤ o.units) × AreLined os

-- a run that passes units is true of them
abbrev pub IsTrueRun : Kind → ℕ → ℕ → Text → Type 0
IsTrueRun kind.Keep n lines us = (1 ≤ n) × IsLined lines (newlines us)
IsTrueRun kind.Drop n lines us = (1 ≤ n) × IsLined lines (newlines us)
IsTrueRun kind.Insert n lines us = Unit {0}

-- runs are true of a text: each that passes units has their newlines, the last of them at its end
abbrev pub AreTrue : List Op → Text → Type 0
AreTrue [] text = Unit {0}
AreTrue (o ∷ os) text = IsTrueRun o.kind o.units o.lines (take (passed o.kind o.units) text) × AreTrue os (drop (passed o.kind o.units) text)

-- a change whose runs are normal, and stand for it with the units that it inserts; its lengths are below 2 ^ 32, and its pieces are documents
pub record IsNormal (c : Change) : Type 0 where
  pub is : c ≡ change_of (length c.edit.places) c.runs (bank_of c.edit)
  pub inside : all_passed c.runs ≤ length c.edit.places
  pub normal : AreNormal c.runs (bank_of c.edit)
  pub lined : AreLined c.runs
  pub old : old_len c.edit < 2 ^ 32
  pub new : new_len c.edit < 2 ^ 32
  pub pieces : AreDocuments c.edit.places c.edit.last
