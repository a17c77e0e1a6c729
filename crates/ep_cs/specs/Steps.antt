-- What steps make of a list.
use Rattle.std.specs.Prelude.{ℕ, suc, List, [], ◌∷◌, ◌++◌}
use Rattle.ep_attr.specs.AttrMap.{AttrMap}
use Rattle.ep_cs.specs.Doc.{Cell}
use Rattle.ep_cs.specs.Edit.{Step, at_place}
use Rattle.ep_cs.specs.Edit.Step.{Insert, Pass}

-- the number of places that steps pass
abbrev pub passed : List Step → ℕ
passed [] = 0
passed (Insert c ∷ steps) = passed steps
passed (Pass f ∷ steps) = suc (passed steps)

module _ {X : Type 0} (kept : X → AttrMap → X) (new : Cell → X) where
  abbrev pub run : List Step → List X → List X
  run [] xs = []
  run (Insert c ∷ steps) xs = new c ∷ run steps xs
  run (Pass f ∷ steps) [] = run steps []
  run (Pass f ∷ steps) (x ∷ xs) = at_place kept new f x ++ run steps xs
