use Rattle.std.proofs.Common.{arith, subst}
use Rattle.ep_cs.specs.Doc.{text_of}
use Rattle.ep_block_parts.specs.Seen.{Sees}
use Rattle.ep_block_nodes.proofs.Blocks.{nodes_room, nodes_seen}
use Rattle.ep_block_nodes.proofs.node.seen_of.Goals as goal

pub then-seen-requires-clause-units : goal.then-seen-requires-clause-units
then-seen-requires-clause-units g c =
    let of = subst (λ x. Sees c.seen.result (text_of (g.T.Node.cells x))) c.deref.ensures c.seen.ensures.seen in
    (nodes_room g.T.Node.cells c.args.nodes.now c.loop-node.node-index c.node-item.result c.loop-node.seen c.seen.result (omega arith) c.node-item.is c.requires c.loop-node.invariant of).units

pub then-seen-requires-clause-lines : goal.then-seen-requires-clause-lines
then-seen-requires-clause-lines g c =
    let of = subst (λ x. Sees c.seen.result (text_of (g.T.Node.cells x))) c.deref.ensures c.seen.ensures.seen in
    (nodes_room g.T.Node.cells c.args.nodes.now c.loop-node.node-index c.node-item.result c.loop-node.seen c.seen.result (omega arith) c.node-item.is c.requires c.loop-node.invariant of).lines

pub then-seen-requires-clause-tail : goal.then-seen-requires-clause-tail
then-seen-requires-clause-tail g c =
    let of = subst (λ x. Sees c.seen.result (text_of (g.T.Node.cells x))) c.deref.ensures c.seen.ensures.seen in
    (nodes_room g.T.Node.cells c.args.nodes.now c.loop-node.node-index c.node-item.result c.loop-node.seen c.seen.result (omega arith) c.node-item.is c.requires c.loop-node.invariant of).tail

pub loop-node-preserved : goal.loop-node-preserved
loop-node-preserved g c =
    let of = subst (λ x. Sees c.seen.result (text_of (g.T.Node.cells x))) c.deref.ensures c.seen.ensures.seen in
    nodes_seen g.T.Node.cells c.args.nodes.now c.loop-node.node-index c.node-item.result c.loop-node.seen c.seen.result c.then-seen.result (omega arith) c.node-item.is c.loop-node.invariant of c.then-seen.ensures.seen
