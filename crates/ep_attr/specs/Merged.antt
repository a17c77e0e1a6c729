-- Working words of private contracts: what a walk over two lists of pairs makes, pair by pair.
use Rattle.std.specs.Prelude.{List, [], ◌∷◌, Option, Some, None}
use Rattle.std.specs.FinMap.Entries.{by_order}
use Rattle.ep_units.specs.Text.{Text, text_cmp}
use Rattle.ep_attr.specs.AttrMap.{Pair}

-- a value at a key before other pairs, where there is one
abbrev pub given : Text → Option Text → List Pair → List Pair
given k None ps = ps
given k (Some v) ps = (k, v) ∷ ps

module _ (f : Option Text → Option Text → Option Text) where
  -- the values of a second list alone
  abbrev pub merged_right : List Pair → List Pair
  merged_right [] = []
  merged_right (q ∷ qs) = given q.0 (f None (Some q.1)) (merged_right qs)

  -- a first pair and what is made of those after it, with a second list
  abbrev pub merged_left : Pair → (List Pair → List Pair) → List Pair → List Pair
  merged_left p on [] = given p.0 (f (Some p.1) None) (on [])
  merged_left p on (q ∷ qs) = by_order (text_cmp p.0 q.0)
      (given p.0 (f (Some p.1) None) (on (q ∷ qs)))
      (given p.0 (f (Some p.1) (Some q.1)) (on qs))
      (given q.0 (f None (Some q.1)) (merged_left p on qs))

  -- at each key of the two lists the value that f makes
  abbrev pub merged : List Pair → List Pair → List Pair
  merged [] qs = merged_right qs
  merged (p ∷ ps) qs = merged_left p (merged ps) qs
