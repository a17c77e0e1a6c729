-- What runs mean: the steps of their units, one by one.
use Rattle.std.specs.Prelude.{ℕ, zero, suc, ◌+◌, List, [], ◌∷◌, ◌++◌, map, replicate, take, drop}
use Rattle.ep_units.specs.Text.{Text}
use Rattle.ep_attr.specs.AttrMap.{AttrMap, none}
use Rattle.ep_cs.specs.Doc.{Cell}
use Rattle.ep_cs.specs.Edit.{Step, inserts}
use Rattle.ep_cs.specs.Edit.Fate.{Drop, Keep}
use Rattle.ep_cs.specs.Edit.Step.{Pass}
use Rattle.ep_cs.specs.declared.op.Kind.{Kind}
use Rattle.ep_cs.specs.declared.op.Kind.TheVariants as kind
use Rattle.ep_cs.specs.declared.op.Op.{Op}

-- units with one map
abbrev pub cells : AttrMap → Text → List Cell
cells m us = map (λ u. record { unit = u; attrs = m }) us

-- how many units a run of this kind and length takes from the bank
abbrev pub inserted : Kind → ℕ → ℕ
inserted kind.Keep n = 0
inserted kind.Drop n = 0
inserted kind.Insert n = n

-- how many old units a run passes
abbrev pub passed : Kind → ℕ → ℕ
passed kind.Keep n = n
passed kind.Drop n = n
passed kind.Insert n = 0

abbrev pub run_steps : Kind → ℕ → AttrMap → Text → List Step
run_steps kind.Keep n m text = replicate n (Pass (Keep m))
run_steps kind.Drop n m text = replicate n (Pass Drop)
run_steps kind.Insert n m text = inserts (cells m text)

abbrev pub op_steps : Op → Text → List Step
op_steps o text = run_steps o.kind o.units o.attrs text

-- the steps of runs, whose inserted units stand in the bank in order
abbrev pub steps_of : List Op → Text → List Step
steps_of [] bank = []
steps_of (o ∷ os) bank = op_steps o (take (inserted o.kind o.units) bank) ++ steps_of os (drop (inserted o.kind o.units) bank)

-- how many old units runs pass
abbrev pub all_passed : List Op → ℕ
all_passed [] = 0
all_passed (o ∷ os) = passed o.kind o.units + all_passed os

abbrev pub all_inserted : List Op → ℕ
all_inserted [] = 0
all_inserted (o ∷ os) = inserted o.kind o.units + all_inserted os

-- the rest is kept
abbrev pub rest_kept : ℕ → List Step
rest_kept n = replicate n (Pass (Keep none))

-- so many newlines at the last of n places
abbrev pub marked : ℕ → ℕ → List ℕ
marked zero lines = []
marked (suc n) lines = replicate n 0 ++ lines ∷ []

-- the newlines that a run says, at its last unit
abbrev pub run_marks : Kind → ℕ → ℕ → List ℕ
run_marks kind.Keep n lines = marked n lines
run_marks kind.Drop n lines = marked n lines
run_marks kind.Insert n lines = []

abbrev pub marks_of : List Op → List ℕ
marks_of [] = []
marks_of (o ∷ os) = run_marks o.kind o.units o.lines ++ marks_of os
