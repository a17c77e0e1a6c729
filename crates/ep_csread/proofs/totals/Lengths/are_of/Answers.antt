use Rattle.std.proofs.Common.{arith}
use Rattle.ep_csread.proofs.Building.{all_dropped_within}
use Rattle.ep_csread.proofs.totals.Lengths.are_of.Goals as goal

pub overflow_sub-self : goal.overflow_sub-self
overflow_sub-self c = omega (arith, c.of-totals.ensures.passed, c.of-totals.ensures.dropped, all_dropped_within c.args.ops.now)
