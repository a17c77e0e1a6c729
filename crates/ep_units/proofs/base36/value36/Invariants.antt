use Rattle.std.proofs.Common.{◌≡◌, ◌≤◌, take}
use Rattle.ep_units.specs.Base36.{most_read, value36}
use Rattle.ep_units.proofs.base36.value36.Given as goal

abbrev pub invariant-loop-digit : goal.invariant-loop-digit
invariant-loop-digit l = (l.value ≡ value36 (take l.digit-index l.digits)) × (l.value ≤ most_read)
