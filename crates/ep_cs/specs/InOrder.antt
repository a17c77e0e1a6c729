-- Working words of private contracts: runs that stand in normal form as they were written.
use Rattle.std.specs.Prelude.{◌≡◌, ℕ, ◌≤◌, true, List, [], ◌∷◌}
use Rattle.ep_cs.specs.declared.op.Kind.{Kind}
use Rattle.ep_cs.specs.declared.op.Kind.TheVariants as kind
use Rattle.ep_cs.specs.declared.op.Op.{Op}
use Rattle.ep_cs.specs.NormalRuns.{precedes}

-- a run that inserts some text says that it has no newlines
abbrev pub SaysNoLines : Kind → ℕ → ℕ → Type 0
SaysNoLines kind.Insert units lines = (1 ≤ units) × (lines ≡ 0)
SaysNoLines _ units lines = Unit {0}

-- each may stand before those behind it, and says of no inserted newlines
abbrev pub AreInOrder : List Op → Type 0
AreInOrder [] = Unit {0}
AreInOrder (o ∷ os) = (precedes o os ≡ true) × SaysNoLines o.kind o.units o.lines × AreInOrder os
