use Rattle.std.proofs.Common.{drop}
use Rattle.ep_csread.proofs.WirePool.{IsSpelling}
use Rattle.ep_csread.proofs.wires.spelled.Given as goal

abbrev pub invariant-loop-change : goal.invariant-loop-change
invariant-loop-change l = IsSpelling l.pool.pairs l.changes (drop l.change-index l.changes) l.texts.items
