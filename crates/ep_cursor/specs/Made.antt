-- Working words of private contracts: what steps make of a text, and how much they give.
use Rattle.std.specs.Prelude.{ℕ, suc, List, [], ◌∷◌}
use Rattle.ep_units.specs.Text.{Text}
use Rattle.ep_cs.specs.Edit.{Step}
use Rattle.ep_cs.specs.Edit.Fate.{Drop, Keep}
use Rattle.ep_cs.specs.Edit.Step.{Insert, Pass}
use Rattle.ep_cs.specs.Steps.{run}

-- the units that steps make of units
abbrev pub text_made : List Step → Text → Text
text_made steps us = run (λ u m. u) (λ c. c.unit) steps us

-- the number of elements that steps give
abbrev pub given : List Step → ℕ
given [] = 0
given (Insert c ∷ steps) = suc (given steps)
given (Pass Drop ∷ steps) = given steps
given (Pass (Keep m) ∷ steps) = suc (given steps)
