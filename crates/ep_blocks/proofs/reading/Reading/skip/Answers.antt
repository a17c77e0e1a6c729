use Rattle.std.proofs.Common.{arith}
use Rattle.ep_blocks.proofs.Pieces.{next_rest}
use Rattle.ep_blocks.proofs.reading.Reading.skip.Goals as goal

pub pieces-preserved : goal.pieces-preserved
pieces-preserved c =
    let n = c.skip_piece-left in
    record {
      rest = next_rest c.args.units c.pieces.left n.result c.args.self.now c.pieces.self n.new.self c.pieces.invariant.within n.ensures.units.1 c.pieces.invariant.rest n.ensures.rest;
      within = omega (arith, c.pieces.invariant.within);
    }
