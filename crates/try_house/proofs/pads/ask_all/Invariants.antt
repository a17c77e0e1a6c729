use Rattle.ep_house.specs.Pads.{IsHallOf}
use Rattle.try_house.proofs.pads.ask_all.Given as goal

abbrev pub invariant-rows : goal.invariant-rows
invariant-rows g l = IsHallOf l.pads l.hall
