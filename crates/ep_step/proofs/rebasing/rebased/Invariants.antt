use Rattle.std.proofs.Common.{drop}
use Rattle.ep_step.proofs.OnItsWay.{IsOnItsWay}
use Rattle.ep_step.proofs.rebasing.rebased.Given as goal

abbrev pub invariant-loop-rev : goal.invariant-loop-rev
invariant-loop-rev l = IsOnItsWay l.since (drop l.rev-index l.since) l.fn.change l.behind
