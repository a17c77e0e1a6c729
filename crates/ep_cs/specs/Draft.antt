-- A change that is being written from left to right: what has been said so far.
use Rattle.std.specs.Prelude.{ℕ, ◌+◌, ◌-◌, List, [], ◌∷◌, ◌++◌, replicate}
use Rattle.ep_units.specs.Text.{Text}
use Rattle.ep_attr.specs.AttrMap.{AttrMap, none, after}
use Rattle.ep_cs.specs.Edit.{Step, inserts, edit_of}
use Rattle.ep_cs.specs.Edit.Fate.{Drop, Keep}
use Rattle.ep_cs.specs.Edit.Step.{Insert, Pass}
use Rattle.ep_cs.specs.Steps.{passed}
use Rattle.ep_cs.specs.Runs.{cells, marked, rest_kept}
use Rattle.ep_cs.specs.Change.{Change, change_with}

-- a change of so many units, its steps so far, and the newlines of the places that they pass
pub record Draft : Type 0 where
  pub old : ℕ
  pub steps : List Step
  pub marks : List ℕ

abbrev pub blank : ℕ → Draft
blank old = record { old = old; steps = []; marks = [] }

-- so many places are kept with a map; they hold so many newlines, the last of them at their end
abbrev pub keeping : Draft → ℕ → ℕ → AttrMap → Draft
keeping d units lines m = record { old = d.old; steps = d.steps ++ replicate units (Pass (Keep m)); marks = d.marks ++ marked units lines }

abbrev pub dropping : Draft → ℕ → ℕ → Draft
dropping d units lines = record { old = d.old; steps = d.steps ++ replicate units (Pass Drop); marks = d.marks ++ marked units lines }

-- a text is inserted with a map, of which an empty value is none
abbrev pub inserting : Draft → Text → AttrMap → Draft
inserting d text m = record { old = d.old; steps = d.steps ++ inserts (cells (after none m) text); marks = d.marks }

-- the change that was written: the places behind it are kept
abbrev pub drafted : Draft → Change
drafted d = change_with (edit_of (d.steps ++ rest_kept (d.old - passed d.steps))) d.marks

abbrev pub dropped_by : List Step → ℕ
dropped_by [] = 0
dropped_by (Insert c ∷ steps) = dropped_by steps
dropped_by (Pass Drop ∷ steps) = 1 + dropped_by steps
dropped_by (Pass (Keep m) ∷ steps) = dropped_by steps

abbrev pub inserted_by : List Step → ℕ
inserted_by [] = 0
inserted_by (Insert c ∷ steps) = 1 + inserted_by steps
inserted_by (Pass f ∷ steps) = inserted_by steps

-- the length after it, so far
abbrev pub new_length : Draft → ℕ
new_length d = d.old - dropped_by d.steps + inserted_by d.steps
