use Rattle.ep_import.specs.Seen.{revs_of}
use Rattle.ep_import.proofs.Following.{Remains}
use Rattle.ep_import.proofs.replaying.replayed.Given as goal

abbrev pub invariant-loop-row : goal.invariant-loop-row
invariant-loop-row l = Remains l.pool.pairs l.rows l.row-index (revs_of l.replay)
