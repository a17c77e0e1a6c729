use Rattle.std.proofs.Common.{drop}
use Rattle.easysync.proofs.Among.{StandsFor}
use Rattle.easysync.proofs.calc.all_fit.Given as goal

abbrev pub invariant-loop-change : goal.invariant-loop-change
invariant-loop-change l = StandsFor l.changes (drop l.change-index l.changes) l.doc l.now
