use Rattle.std.proofs.Common.{drop}
use Rattle.ep_follow.proofs.OnItsWay.{IsOnItsWay}
use Rattle.ep_follow.proofs.rebasing.rebase.Given as goal

abbrev pub invariant-loop-made : goal.invariant-loop-made
invariant-loop-made l = IsOnItsWay l.since (drop l.made-index l.since) l.fn.change l.behind
