use Rattle.std.proofs.Common.{◌≡◌, ◌-◌, ◌∙◌, ap, subst, arith, length, IfSome}
use Rattle.ep_block_nodes.specs.Blocks.{node_cells}
use Rattle.std.specs.Arc.{arc_value}
use Rattle.ep_cs.specs.Runs.{cells}
use Rattle.ep_block_parts.specs.Splices.{spliced}
use Rattle.ep_block_nodes.proofs.Splices.{has_it, node_spliced}
use Rattle.ep_block_nodes.proofs.splicing.spliced.Goals as goal

pub spliced-requires-clause-inside : goal.spliced-requires-clause-inside
spliced-requires-clause-inside g c =
    let f = g.T.Node.cells in
    let s = c.args.splice in
    let n = c.index-nodes-place.result in
    let it = has_it f c.args.nodes.now c.in-Some.place.index n s.at s.dropped c.in-Some.place.before c.in-Some.ensures c.index-nodes-place.is in
    let own = ap (λ x. length (f x)) c.deref.ensures in
    omega (arith, it.inside, own, c.behind.ensures.at, c.behind.ensures.dropped)

pub spliced-requires-clause-short : goal.spliced-requires-clause-short
spliced-requires-clause-short g c =
    let f = g.T.Node.cells in
    let s = c.args.splice in
    let n = c.index-nodes-place.result in
    let it = has_it f c.args.nodes.now c.in-Some.place.index n s.at s.dropped c.in-Some.place.before c.in-Some.ensures c.index-nodes-place.is in
    let own = ap (λ x. length (f x)) c.deref.ensures in
    let text = ap (λ x. length x.text.now) c.behind.ensures.new in
    omega (arith, it.room, own, text, c.requires.short)

pub returns : goal.returns
returns g c =
    let f = g.T.Node.cells in
    let s = c.args.splice in
    let n = c.index-nodes-place.result in
    let b = c.behind.ensures in
    let asked = c.behind.result in
    let as_asked : spliced asked.at asked.dropped (cells asked.new.attrs.now asked.new.text.now) (f c.deref.result.now) ≡ spliced (s.at - c.in-Some.place.before) s.dropped (cells s.new.attrs.now s.new.text.now) (f (arc_value n)) =
    λ i. spliced (b.at i) (b.dropped i) (cells (b.new i).attrs.now (b.new i).text.now) (f (c.deref.ensures i)) in
    node_spliced f c.args.nodes.now c.in-Some.place.index n (f (arc_value c.in_ok-node-2.node)) (cells s.new.attrs.now s.new.text.now) (node_cells f c.in_ok-replaced.field-0.items) s.at s.dropped c.in-Some.place.before c.in-Some.ensures c.index-nodes-place.is
    (ap f c.in_ok-node-2.ensures.ok ∙ subst (λ o. IfSome o (λ x. f x ≡ spliced c.behind.result.at c.behind.result.dropped (cells c.behind.result.new.attrs.now c.behind.result.new.text.now) (f c.deref.result.now))) c.in-Some-2.is c.in_ok-node.ensures.made ∙ as_asked)
    c.in_ok-replaced.ensures
