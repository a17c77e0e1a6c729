use Rattle.ep_apply.proofs.Painted.{more_painted}
use Rattle.ep_apply.proofs.moving.keep_painted.Goals as goal

pub pieces-preserved : goal.pieces-preserved
pieces-preserved c =
    let n = c.in_ok-left in
    more_painted c.args.attrs.now c.args.units c.pieces.left n.field-0 c.args.out.now c.args.rest.now c.pieces.out c.pieces.rest c.paint_piece.new.out c.paint_piece.new.rest c.pieces.invariant n.ensures.units.1 n.ensures.done n.ensures.rest
