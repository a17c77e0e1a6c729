use Rattle.std.proofs.Common.{◌≡◌, ◌++◌, drop}
use Rattle.ep_units.specs.Clean.{clean}
use Rattle.ep_units.proofs.units.Units.clean.Given as goal

abbrev pub invariant-loop-at : goal.invariant-loop-at
invariant-loop-at l = l.cleaned ++ clean (drop l.at l.units) ≡ clean l.units
