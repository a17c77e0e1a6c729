use Rattle.std.proofs.Common.{◌≡◌, drop}
use Rattle.ep_csread.specs.Reading.{first_such, is_missing}
use Rattle.ep_csread.proofs.checks.missing_of.Given as goal

abbrev pub invariant-loop-number : goal.invariant-loop-number
invariant-loop-number l = first_such (is_missing l.count) (drop l.number-index l.numbers) ≡ first_such (is_missing l.count) l.numbers
