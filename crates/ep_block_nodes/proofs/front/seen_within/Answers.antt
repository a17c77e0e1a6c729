use Rattle.std.proofs.Common.{arith, subst}
use Rattle.ep_cs.specs.Doc.{text_of}
use Rattle.ep_block_parts.specs.Seen.{Sees}
use Rattle.ep_block_parts.proofs.Texts.{few_lines}
use Rattle.ep_block_nodes.proofs.Blocks.{nodes_seen}
use Rattle.ep_block_nodes.proofs.front.seen_within.Goals as goal

pub then-requires-clause-lines : goal.then-requires-clause-lines
then-requires-clause-lines g c =
    let of = subst (λ x. Sees c.seen-next.result (text_of (g.T.Node.cells x))) c.deref.ensures c.seen-next.ensures.seen in
    let s = c.loop-node.invariant in
    omega (arith, few_lines c.loop-node.passed.seen _ s.seen, few_lines c.seen-next.result _ of, s.most)

pub loop-node-preserved : goal.loop-node-preserved
loop-node-preserved g c =
    let of = subst (λ x. Sees c.seen-next.result (text_of (g.T.Node.cells x))) c.deref.ensures c.seen-next.ensures.seen in
    let s = c.loop-node.invariant in
    record {
      count = omega (arith, s.count);
      seen = nodes_seen g.T.Node.cells c.args.nodes.now c.loop-node.node-index c.node-item.result c.loop-node.passed.seen c.seen-next.result c.then.result (omega arith) c.node-item.is s.seen of c.then.ensures.seen;
      most = omega (arith, c.then.ensures.units, s.most);
    }
