use Rattle.std.proofs.Common.{◌≡◌, true, length, take}
use Rattle.ep_fields.specs.Writing.{is_ascii}
use Rattle.ep_fields.proofs.writing.narrow.Given as goal

abbrev pub invariant-loop-i : goal.invariant-loop-i
invariant-loop-i l =
    (length l.bytes ≡ length l.units) × (l.ascii ≡ is_ascii (take l.i l.units)) × (l.ascii ≡ true → take l.i l.bytes ≡ take l.i l.units)
