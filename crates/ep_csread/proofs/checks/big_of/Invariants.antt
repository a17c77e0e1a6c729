use Rattle.std.proofs.Common.{◌≡◌, drop}
use Rattle.ep_csread.specs.Reading.{first_such, is_big}
use Rattle.ep_csread.proofs.checks.big_of.Given as goal

abbrev pub invariant-loop-number : goal.invariant-loop-number
invariant-loop-number l = first_such is_big (drop l.number-index l.numbers) ≡ first_such is_big l.numbers
