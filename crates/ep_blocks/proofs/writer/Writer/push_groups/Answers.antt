use Rattle.std.proofs.Common.{ap, arith, length, length-append}
use Rattle.ep_block_nodes.specs.Blocks.{all_cells, its_own}
use Rattle.ep_block_nodes.proofs.Blocks.{node_room}
use Rattle.ep_blocks.proofs.writer.Writer.push_groups.Goals as goal

pub share_groups-requires : goal.share_groups-requires
share_groups-requires c =
    omega (arith, ap length c.pieces.invariant, length-append c.pieces.self (all_cells c.pieces.rest.now), length-append c.args.self.now (all_cells c.args.groups.now), c.requires)

pub push_blocks-requires : goal.push_blocks-requires
push_blocks-requires c =
    let room = node_room its_own c.pieces.rest.now 0 c.group-item.result (omega (arith, c.in-len1-up.len_at_least)) c.group-item.is in
    let same = ap length c.items-in-len1-up.ensures.all in
    let value = ap length c.deref-in-len1-up.ensures in
    omega (arith, ap length c.pieces.invariant, length-append c.pieces.self (all_cells c.pieces.rest.now), length-append c.args.self.now (all_cells c.args.groups.now), room, same, value, c.requires)
