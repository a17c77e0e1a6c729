-- What a keeper tells that is opened anew after a failure.
use Rattle.std.specs.Prelude.{Bool, true, false, List, Option, Some, None}
use Rattle.ep_outside.specs.Kept.{Rises}
use Rattle.ep_outside.specs.declared.keeper.Pair.{Pair}

module _ {K : Type 0} (told : K → Option (List Pair)) where
  -- what the keeper tells with which it began, while it has that; of one that was opened since nothing is told
  abbrev pub told_while : Option K → Bool → Option (List Pair)
  told_while None is_first = None
  told_while (Some k) true = told k
  told_while (Some k) false = None

  -- a map that is told rises
  pub while_rises : ((k : K) → Rises (told k)) → (kept : Option K) (is_first : Bool) → Rises (told_while kept is_first)
  while_rises rises None is_first = tt
  while_rises rises (Some k) true = rises k
  while_rises rises (Some k) false = tt
