use Rattle.std.proofs.Common.{◌∙◌, ◌++◌, List, ap, sym, append_assoc}
use Rattle.std.specs.Arc.{arc_value}
use Rattle.ep_cs.specs.Doc.{Cell}
use Rattle.ep_block_nodes.specs.Blocks.{all_cells, its_own}
use Rattle.ep_block_nodes.proofs.Blocks.{one_node}
use Rattle.ep_block_nodes.proofs.pile.Pile.add.Goals as goal

pub returns : goal.returns
returns c =
    let base = c.self.inside.groups in
    let old = c.self.inside.blocks.items in
    ap (λ (cs : List Cell). base ++ cs) (ap all_cells c.in_ok-push.ensures.items ∙ one_node its_own old c.args.block) ∙ sym (append_assoc base (all_cells old) (arc_value c.args.block))
    ∙ ap (λ (cs : List Cell). cs ++ arc_value c.args.block) (c.self.view_is ∙ c.in_ok-make_room.ensures)
