use Rattle.std.proofs.Common.{arith}
use Rattle.ep_units.proofs.Reading.{above_limit}
use Rattle.ep_units.proofs.base36.value36.Goals as goal

pub returns-then-value-gt-MOST_READ-clause-number : goal.returns-then-value-gt-MOST_READ-clause-number
returns-then-value-gt-MOST_READ-clause-number c =
    above_limit c.args.digits.now c.loop-digit.digit-index c.loop-digit.value c.digit_value.result (omega arith) c.loop-digit.invariant.0 c.digit_value.ensures (omega arith)
