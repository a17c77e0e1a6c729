use Rattle.std.proofs.Common.{drop}
use Rattle.ep_put.proofs.Telling.{IsOnTheWay}
use Rattle.ep_put.proofs.records.add_later.Given as goal

abbrev pub invariant-loop-rev : goal.invariant-loop-rev
invariant-loop-rev l = IsOnTheWay l.fn.first l.revs l.fn.out.items l.doc l.out.items (drop l.rev-index l.revs)
