use Rattle.std.proofs.Common.{ap, arith, length, length-append}
use Rattle.ep_block_nodes.specs.Blocks.{all_cells, its_own}
use Rattle.ep_block_nodes.proofs.Blocks.{node_room}
use Rattle.ep_blocks.proofs.writer.Writer.push_pages.Goals as goal

pub share_pages-requires : goal.share_pages-requires
share_pages-requires c =
    omega (arith, ap length c.pieces.invariant, length-append c.pieces.self (all_cells c.pieces.rest.now), length-append c.args.self.now (all_cells c.args.pages.now), c.requires)

pub push_groups-requires : goal.push_groups-requires
push_groups-requires c =
    let room = node_room its_own c.pieces.rest.now 0 c.page-item.result (omega (arith, c.in-len1-up.len_at_least)) c.page-item.is in
    let same = ap length c.items-in-len1-up.ensures.all in
    let value = ap length c.deref-in-len1-up.ensures in
    omega (arith, ap length c.pieces.invariant, length-append c.pieces.self (all_cells c.pieces.rest.now), length-append c.args.self.now (all_cells c.args.pages.now), room, same, value, c.requires)
