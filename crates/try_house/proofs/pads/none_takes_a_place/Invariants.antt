use Rattle.ep_house.specs.Pads.{IsHallOf}
use Rattle.try_house.proofs.pads.none_takes_a_place.Given as goal

abbrev pub invariant-names : goal.invariant-names
invariant-names g l = IsHallOf l.pads l.hall
