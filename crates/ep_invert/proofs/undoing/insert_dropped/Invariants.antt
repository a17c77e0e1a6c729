use Rattle.ep_invert.proofs.Pieces.{AreInserted}
use Rattle.ep_invert.proofs.undoing.insert_dropped.Given as goal

abbrev pub invariant-pieces : goal.invariant-pieces
invariant-pieces l = AreInserted l.units l.left l.initial.rest l.initial.out l.out l.rest

abbrev pub decreases-pieces : goal.decreases-pieces
decreases-pieces l = l.left
