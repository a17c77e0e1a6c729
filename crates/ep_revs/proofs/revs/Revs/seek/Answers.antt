use Rattle.std.proofs.Common.{◌<◌, ◌+◌, length, arith, ap, ◌∙◌}
use Rattle.ep_revs.specs.Revisions.{Revisions}
use Rattle.ep_revs.proofs.Docs.{step-fits, step-made}
use Rattle.ep_revs.proofs.revs.Revs.seek.Goals as goal

pub step-requires : goal.step-requires
step-requires g c =
    let vs = c.self.inside.revs.items in
    let n = ap (λ (r : Revisions). length r.revs) c.self.view_is in
    let lt = c.requires in
    let below : c.loop-i.i + 1 < length vs = omega (arith, n, lt) in
    step-fits vs c.loop-i.i c.index-in-loop-i.result.now c.loop-i.doc c.self.invariant.kept.made below c.index-in-loop-i.ensures c.loop-i.invariant.0

pub loop-i-preserved : goal.loop-i-preserved
loop-i-preserved g c =
    let vs = c.self.inside.revs.items in
    let n = ap (λ (r : Revisions). length r.revs) c.self.view_is in
    let lt = c.requires in
    let below : c.loop-i.i + 1 < length vs = omega (arith, n, lt) in (
      c.in_ok-doc-2.ensures.made ∙ step-made vs c.loop-i.i c.index-in-loop-i.result.now c.loop-i.doc below c.index-in-loop-i.ensures c.loop-i.invariant.0,
      omega arith,
    )
