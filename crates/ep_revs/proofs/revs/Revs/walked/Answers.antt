use Rattle.std.proofs.Common.{◌<◌, ◌+◌, length, arith, ap, ◌∙◌}
use Rattle.ep_revs.specs.Revisions.{Revisions}
use Rattle.ep_revs.proofs.Docs.{step-fits, step-made}
use Rattle.ep_revs.proofs.revs.Revs.walked.Goals as goal

pub apply-requires : goal.apply-requires
apply-requires c =
    let vs = c.self.inside.revs.items in
    let n = ap (λ (r : Revisions). length r.revs) c.self.view_is in
    let below : c.loop-i.i + 1 < length vs = omega (arith, n, c.requires.there) in
    step-fits vs c.loop-i.i c.index.result.now c.loop-i.doc c.self.invariant.kept.made below c.index.ensures c.loop-i.invariant

pub loop-i-preserved : goal.loop-i-preserved
loop-i-preserved c =
    let vs = c.self.inside.revs.items in
    let n = ap (λ (r : Revisions). length r.revs) c.self.view_is in
    let below : c.loop-i.i + 1 < length vs = omega (arith, n, c.requires.there) in
    c.in_ok-doc-2.ensures ∙ step-made vs c.loop-i.i c.index.result.now c.loop-i.doc below c.index.ensures c.loop-i.invariant
