use Rattle.std.proofs.Common.{◌∙◌, ◌++◌, ap, arith, length, length-append}
use Rattle.ep_block_nodes.specs.Blocks.{all_cells}
use Rattle.ep_block_nodes.proofs.Blocks.{added_last}
use Rattle.ep_block_nodes.proofs.pile.Pile.add_all.Goals as goal

pub make_room-requires : goal.make_room-requires
make_room-requires c = omega (arith, ap length c.fronts.invariant, length-append c.fronts.self (all_cells c.fronts.rest.now), length-append c.args.self.now (all_cells c.args.blocks.now), c.requires)

pub fronts-preserved : goal.fronts-preserved
fronts-preserved c =
    let s = c.self.inside in
    added_last (c.args.self.now ++ all_cells c.args.blocks.now) c.fronts.self (s.groups) (all_cells c.share_front.new.last.items) (all_cells c.in_ok-rest.rest.now) (all_cells s.blocks.items) (all_cells c.fronts.rest.now)
    c.fronts.invariant (c.self.view_is ∙ c.in_ok-make_room.ensures) c.in_ok-rest.ensures.shared
