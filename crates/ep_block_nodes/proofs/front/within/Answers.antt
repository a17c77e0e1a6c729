use Rattle.std.proofs.Common.{ap, arith, length, length-append, subst, take}
use Rattle.std.specs.Arc.{arc_value}
use Rattle.ep_cs.specs.Doc.{text_of}
use Rattle.ep_block_parts.specs.Seen.{Sees}
use Rattle.ep_block_nodes.specs.Blocks.{node_cells}
use Rattle.ep_block_nodes.proofs.Blocks.{length_text, next_node}
use Rattle.ep_block_nodes.proofs.front.within.Goals as goal

pub loop-node-preserved : goal.loop-node-preserved
loop-node-preserved g c =
    let f = g.T.Node.cells in
    let i = c.loop-node.node-index in
    let n = c.node-item.result in
    let of = subst (λ x. Sees c.seen-more.result (text_of (f x))) c.deref.ensures c.seen-more.ensures.seen in
    let next = ap length (next_node f c.args.nodes.now i n (omega arith) c.node-item.is) in
    record {
      count = omega (arith, c.loop-node.invariant.count);
      units = omega (arith, c.loop-node.invariant.units, next, length-append (node_cells f (take i c.args.nodes.now)) (f (arc_value n)), of.units, length_text (f (arc_value n)));
      most = omega arith;
    }
