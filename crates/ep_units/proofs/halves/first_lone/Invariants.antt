use Rattle.std.proofs.Common.{◌≡◌, drop}
use Rattle.ep_units.specs.Halves.{lone_from, first_lone}
use Rattle.ep_units.proofs.halves.first_lone.Given as goal

abbrev pub invariant-loop-at : goal.invariant-loop-at
invariant-loop-at l = lone_from l.at l.paired (drop l.at l.units) ≡ first_lone l.units
