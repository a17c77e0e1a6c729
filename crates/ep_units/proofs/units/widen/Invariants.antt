use Rattle.std.proofs.Common.{◌≡◌, length, take}
use Rattle.ep_units.specs.Utf8.{is_ascii}
use Rattle.ep_units.proofs.units.widen.Given as goal

abbrev pub invariant-loop-i : goal.invariant-loop-i
invariant-loop-i l =
    (length l.bytes ≡ length l.units) × (l.ascii ≡ is_ascii (take l.i l.bytes)) × (take l.i l.units ≡ take l.i l.bytes)
