use Rattle.std.proofs.Common.{◌≡◌, take}
use Rattle.ep_csread.specs.Reading.{values}
use Rattle.ep_csread.proofs.attrs.same_values.Given as goal

abbrev pub invariant-loop-i : goal.invariant-loop-i
invariant-loop-i l = values (take l.i l.a) ≡ values (take l.i l.b)
