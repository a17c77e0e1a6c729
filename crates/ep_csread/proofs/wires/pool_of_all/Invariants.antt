use Rattle.std.proofs.Common.{drop}
use Rattle.ep_csread.proofs.WirePool.{IsNaming}
use Rattle.ep_csread.proofs.wires.pool_of_all.Given as goal

abbrev pub invariant-loop-change : goal.invariant-loop-change
invariant-loop-change l = IsNaming l.changes (drop l.change-index l.changes) l.pool.pairs
