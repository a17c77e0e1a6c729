use Rattle.ep_blocks.proofs.Pieces.{more_moved}
use Rattle.ep_blocks.proofs.writer.Writer.keep.Goals as goal

pub pieces-preserved : goal.pieces-preserved
pieces-preserved c =
    let n = c.in_ok-left-2 in
    more_moved c.args.units c.pieces.left n.field-0 c.args.self.now c.args.rest.now c.pieces.self c.pieces.rest c.keep_piece.new.out c.keep_piece.new.rest c.pieces.invariant n.ensures.units.1 n.ensures.done n.ensures.rest
