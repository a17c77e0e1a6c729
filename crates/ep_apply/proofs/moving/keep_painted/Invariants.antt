use Rattle.ep_apply.proofs.Painted.{ArePainted}
use Rattle.ep_apply.proofs.moving.keep_painted.Given as goal

abbrev pub invariant-pieces : goal.invariant-pieces
invariant-pieces l = ArePainted l.attrs l.units l.left l.initial.out l.initial.rest l.out l.rest

abbrev pub decreases-pieces : goal.decreases-pieces
decreases-pieces l = l.left
