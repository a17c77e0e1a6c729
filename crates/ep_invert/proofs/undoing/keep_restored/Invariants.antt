use Rattle.ep_invert.proofs.Pieces.{AreRestored}
use Rattle.ep_invert.proofs.undoing.keep_restored.Given as goal

abbrev pub invariant-pieces : goal.invariant-pieces
invariant-pieces l = AreRestored l.attrs l.units l.left l.initial.rest l.initial.out l.out l.rest

abbrev pub decreases-pieces : goal.decreases-pieces
decreases-pieces l = l.left
