-- Working words of private contracts: what is written for one run.
use Rattle.std.specs.Prelude.{ℕ, Bool, false, List, [], ◌∷◌}
use Rattle.ep_units.specs.Text.{Text}
use Rattle.ep_attr.specs.AttrMap.{AttrMap, none}
use Rattle.ep_cs.specs.Edit.{Step}
use Rattle.ep_cs.specs.Edit.Fate.{Drop, Keep}
use Rattle.ep_cs.specs.Edit.Step.{Insert, Pass}
use Rattle.ep_cs.specs.Draft.{Draft, keeping}
use Rattle.ep_cs.specs.declared.op.Kind.{Kind}
use Rattle.ep_cs.specs.declared.op.Kind.TheVariants as kind
use Rattle.ep_cs.specs.declared.op.Op.{Op}
use Rattle.ep_sign.specs.Signing.{names_another, mark}

-- a run inserts units that name another
abbrev pub inserted_as : Text → Kind → AttrMap → Bool
inserted_as author kind.Keep m = false
inserted_as author kind.Drop m = false
inserted_as author kind.Insert m = names_another author m

abbrev pub is_anothers : Text → Op → Bool
is_anothers author o = inserted_as author o.kind o.attrs

-- how many units a run leaves
abbrev pub left : Kind → ℕ → ℕ
left kind.Keep n = n
left kind.Drop n = 0
left kind.Insert n = n

-- what is written when the units are kept that a run leaves
abbrev pub kept_run : Text → Kind → ℕ → ℕ → AttrMap → Draft → Draft
kept_run author kind.Keep n lines m d = keeping d n lines none
kept_run author kind.Drop n lines m d = d
kept_run author kind.Insert n lines m d = keeping d n lines (mark author m)

-- the units that steps leave are kept, the new ones signed
abbrev pub keeps : Text → List Step → List Step
keeps author [] = []
keeps author (Insert c ∷ steps) = Pass (Keep (mark author c.attrs)) ∷ keeps author steps
keeps author (Pass Drop ∷ steps) = keeps author steps
keeps author (Pass (Keep m) ∷ steps) = Pass (Keep none) ∷ keeps author steps
