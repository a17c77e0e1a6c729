-- How written runs are brought to normal form, from the last to the first.
use Rattle.std.specs.Prelude.{◌≡◌, ℕ, ◌≤◌, List, [], ◌∷◌, ◌++◌, length, take, drop}
use Rattle.ep_units.specs.Text.{Text}
use Rattle.ep_attr.specs.AttrMap.{AttrMap, none, after}
use Rattle.ep_cs.specs.declared.op.Kind.{Kind}
use Rattle.ep_cs.specs.declared.op.Kind.TheVariants as kind
use Rattle.ep_cs.specs.declared.op.Op.{Op}
use Rattle.ep_cs.specs.Runs.{cells, inserted, all_passed}
use Rattle.ep_cs.specs.Change.{change_of}
use Rattle.ep_cs.specs.NormalRuns.{AreNormal}
use Rattle.ep_cs.specs.Normal.{put, put_cells}

-- the drops that stand before the next kept place, and the runs behind them
pub record Front : Type 0 where
  pub drops : List Op
  pub rest : List Op

abbrev pub put_front : Kind → Op → Text → Front → Front
put_front kind.Keep o text f = record { drops = []; rest = put o (f.drops ++ f.rest) }
put_front kind.Drop o text f = record { drops = put o f.drops; rest = f.rest }
put_front kind.Insert o text f = record { drops = f.drops; rest = put_cells (cells o.attrs text) f.rest }

abbrev pub front_of : List Op → Text → Front
front_of [] bank = record { drops = []; rest = [] }
front_of (o ∷ os) bank = put_front o.kind o (take (inserted o.kind o.units) bank) (front_of os (drop (inserted o.kind o.units) bank))

-- runs in normal form
abbrev pub normal_of : List Op → Text → List Op
normal_of ops bank = (front_of ops bank).drops ++ (front_of ops bank).rest

-- a run as it is written: some units, a drop without a map, an insertion with the text and without empty values
abbrev pub IsWritten : Kind → ℕ → AttrMap → Text → Type 0
IsWritten kind.Keep n m text = 1 ≤ n
IsWritten kind.Drop n m text = (1 ≤ n) × (m ≡ none)
IsWritten kind.Insert n m text = (length text ≡ n) × (m ≡ after none m)

abbrev pub AreWritten : List Op → Text → Type 0
AreWritten [] bank = bank ≡ []
AreWritten (o ∷ os) bank = IsWritten o.kind o.units o.attrs (take (inserted o.kind o.units) bank) × AreWritten os (drop (inserted o.kind o.units) bank)

-- the normal runs stand for the change that was written
pub record IsFinished (n : ℕ) (ops : List Op) (bank : Text) (made : List Op) : Type 0 where
  pub inside : all_passed made ≤ n
  pub normal : AreNormal made bank
  pub same : change_of n made bank ≡ change_of n ops bank
