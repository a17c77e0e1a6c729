-- Working words of private contracts: what runs say of the text that they pass and of the one that they insert.
use Rattle.std.specs.Prelude.{ℕ, ◌-◌, ◌≤◌, List, [], ◌∷◌, length, take, drop}
use Rattle.ep_units.specs.Text.{Text}
use Rattle.ep_cs.specs.Change.{newlines}
use Rattle.ep_cs.specs.NormalRuns.{IsLined}
use Rattle.ep_cs.specs.Runs.{inserted, passed}
use Rattle.ep_cs.specs.declared.op.Kind.{Kind}
use Rattle.ep_cs.specs.declared.op.Kind.TheVariants as kind
use Rattle.ep_cs.specs.declared.op.Op.{Op}

-- where the units of a run stand
abbrev pub source : Kind → Text → Text → Text
source kind.Keep bank us = us
source kind.Drop bank us = us
source kind.Insert bank us = bank

-- the first so many units hold so many newlines, the last of them at their end
abbrev pub IsSaid : ℕ → ℕ → Text → Type 0
IsSaid n lines us = (n ≤ length us) × IsLined lines (newlines (take n us))

abbrev pub AreSaid : List Op → Text → Text → Type 0
AreSaid [] bank us = Unit {0}
AreSaid (o ∷ os) bank us = IsSaid o.units o.lines (source o.kind bank us) × AreSaid os (drop (inserted o.kind o.units) bank) (drop (passed o.kind o.units) us)

-- so many newlines are left of a run behind its first k units, of which l newlines are left out
abbrev pub IsRest : Op → Text → Text → ℕ → ℕ → Type 0
IsRest o bank us k l = IsLined (o.lines - l) (drop k (newlines (take o.units (source o.kind bank us))))
