use Rattle.std.proofs.Common.{◌≡◌, take}
use Rattle.std.specs.List.{flat_map}
use Rattle.ep_print.specs.Texts.{written}
use Rattle.ep_print.proofs.texts.escape.Given as goal

abbrev pub invariant-loop-unit : goal.invariant-loop-unit
invariant-loop-unit l = l.out ≡ flat_map written (take l.unit-index l.unit-items)
