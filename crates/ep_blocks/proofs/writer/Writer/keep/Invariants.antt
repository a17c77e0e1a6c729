use Rattle.ep_blocks.proofs.Pieces.{AreMoved}
use Rattle.ep_blocks.proofs.writer.Writer.keep.Given as goal

abbrev pub invariant-pieces : goal.invariant-pieces
invariant-pieces l = AreMoved l.units l.left l.fn.self l.fn.rest l.self l.rest

abbrev pub decreases-pieces : goal.decreases-pieces
decreases-pieces l = l.left
