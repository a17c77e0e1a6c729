use Rattle.std.proofs.Common.{ap, arith, length, length-append, subst, take}
use Rattle.std.specs.Arc.{arc_value}
use Rattle.ep_cs.specs.Doc.{text_of}
use Rattle.ep_block_parts.specs.Seen.{Sees}
use Rattle.ep_block_nodes.specs.Blocks.{node_cells}
use Rattle.ep_block_nodes.proofs.Blocks.{length_text, next_node}
use Rattle.ep_block_nodes.proofs.splicing.find.Goals as goal

pub returns-then-end-before : goal.returns-then-end-before
returns-then-end-before g c =
    let f = g.T.Node.cells in
    let i = c.loop-index.index in
    let n = c.index-nodes-index.result in
    let of = subst (λ x. Sees c.seen-units.result (text_of (f x))) c.deref.ensures c.seen-units.ensures.seen in
    let next = ap length (next_node f c.args.nodes.now i n (omega arith) c.index-nodes-index.is) in
    record {
      there = omega arith;
      count = c.loop-index.invariant.count;
      begins = c.loop-index.invariant.begins;
      ends = omega (arith, c.loop-index.invariant.count, c.loop-index.invariant.begins, c.requires, c.if-end-before.true, next, length-append (node_cells f (take i c.args.nodes.now)) (f (arc_value n)), of.units, length_text (f (arc_value n)));
    }

pub loop-index-preserved : goal.loop-index-preserved
loop-index-preserved g c =
    let f = g.T.Node.cells in
    let i = c.loop-index.index in
    let n = c.index-nodes-index.result in
    let of = subst (λ x. Sees c.seen-units.result (text_of (f x))) c.deref.ensures c.seen-units.ensures.seen in
    let next = ap length (next_node f c.args.nodes.now i n (omega arith) c.index-nodes-index.is) in
    record {
      count = omega (arith, c.loop-index.invariant.count, next, length-append (node_cells f (take i c.args.nodes.now)) (f (arc_value n)), of.units, length_text (f (arc_value n)));
      begins = omega (arith, c.loop-index.invariant.begins, c.if-at-before.false);
    }
