use Rattle.std.proofs.Common.{ap, arith, length, length-append}
use Rattle.ep_block_nodes.specs.Blocks.{all_cells, its_own}
use Rattle.ep_block_nodes.proofs.Blocks.{node_room}
use Rattle.ep_blocks.proofs.writer.Writer.push_blocks.Goals as goal

pub share_blocks-requires : goal.share_blocks-requires
share_blocks-requires c =
    omega (arith, ap length c.pieces.invariant, length-append c.pieces.self (all_cells c.pieces.rest.now), length-append c.args.self.now (all_cells c.args.blocks.now), c.requires)

pub push_block-requires : goal.push_block-requires
push_block-requires c =
    let room = node_room its_own c.pieces.rest.now 0 c.block-item.result (omega (arith, c.in-len1-up.len_at_least)) c.block-item.is in
    omega (arith, ap length c.pieces.invariant, length-append c.pieces.self (all_cells c.pieces.rest.now), length-append c.args.self.now (all_cells c.args.blocks.now), room, c.requires)
