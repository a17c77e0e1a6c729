use Rattle.ep_recent.proofs.Told.{IsMade}
use Rattle.ep_recent.proofs.recent.Recent.made.Given as goal

abbrev pub invariant-loop-i : goal.invariant-loop-i
invariant-loop-i l = IsMade l.self l.i l.doc
