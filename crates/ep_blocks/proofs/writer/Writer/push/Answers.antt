use Rattle.std.proofs.Common.{length, ap, arith, length-append}
use Rattle.ep_cs.specs.Runs.{cells}
use Rattle.ep_blocks.proofs.Pieces.{length_cells}
use Rattle.ep_blocks.proofs.writer.Writer.push.Goals as goal

pub push_piece-requires-clause-short : goal.push_piece-requires-clause-short
push_piece-requires-clause-short c =
    let m = c.args.attrs.now in
    let us = c.parts.rest.now in
    omega (arith, ap length c.parts.invariant, length-append c.parts.self (cells m us), length-append c.args.self.now (cells m c.args.text.now), length_cells m us, length_cells m c.args.text.now, c.split_at.ensures.front_len, c.requires)

pub push_piece-requires-2-clause-short : goal.push_piece-requires-2-clause-short
push_piece-requires-2-clause-short c =
    let m = c.args.attrs.now in
    let us = c.parts.rest.now in
    omega (arith, ap length c.parts.invariant, length-append c.parts.self (cells m us), length-append c.args.self.now (cells m c.args.text.now), length_cells m us, length_cells m c.args.text.now, c.requires)
