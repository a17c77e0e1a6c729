use Rattle.std.proofs.Common.{◌+◌, ◌-◌, ◌∙◌, ◌++◌, length, take, drop, ap, append_assoc}
use Rattle.std.proofs.lemmas.List.{take_rest}
use Rattle.std.specs.Arc.{arc_value}
use Rattle.ep_block_nodes.specs.Blocks.{node_cells}
use Rattle.ep_block_nodes.proofs.Blocks.{one_node, shared}
use Rattle.ep_block_nodes.proofs.splicing.replaced.Goals as goal

pub returns : goal.returns
returns g c =
    let f = g.T.Node.cells in
    let ns = c.args.nodes.now in
    let first = take c.args.index ns in
    let last = drop (c.args.index + 1) ns in
    let begun = c.extend_with_clones.new.self.items in
    let more = c.push.new.self.items in
    shared f more c.extend_with_clones-2.new.self.items (take (length ns - (c.args.index + 1)) last) c.in_ok-extend_with_clones-2.ensures.items
    ∙ ap (λ ms. node_cells f more ++ node_cells f ms) (take_rest ns (c.args.index + 1))
    ∙ ap (λ cs. cs ++ node_cells f last) (ap (node_cells f) c.in_ok-push.ensures.items ∙ one_node f begun c.args.node
    ∙ ap (λ cs. cs ++ f (arc_value c.args.node)) (shared f c.in_ok-all.all.items begun first c.in_ok-extend_with_clones.ensures.items ∙ ap (λ ms. node_cells f ms ++ node_cells f first) c.in_ok-all.ensures.items))
    ∙ append_assoc (node_cells f first) (f (arc_value c.args.node)) (node_cells f last)
