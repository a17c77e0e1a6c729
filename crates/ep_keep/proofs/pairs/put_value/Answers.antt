use Rattle.std.proofs.Common.{◌≡◌, ◌<◌, ◌∙◌, sym, ap, length, arith}
use Rattle.std.specs.declared.cmp.Ordering.TheVariants.{Equal}
use Rattle.ep_outside.specs.Kept.{with, key_cmp}
use Rattle.ep_keep.proofs.Places.{put_equal}
use Rattle.ep_keep.proofs.pairs.put_value.Goals as goal

pub returns-in-Equal : goal.returns-in-Equal
returns-in-Equal c =
    let h = c.loop-at.invariant in
    let q = c.index.result.now in
    let e : key_cmp c.args.key q.key ≡ Equal = ap (λ x. key_cmp x q.key) (sym c.as_str.ensures) ∙ (ap (λ y. key_cmp c.as_str.result.now y) (sym c.as_str-in-loop-at.ensures) ∙ (sym c.order.ensures ∙ c.in-Equal.is)) in
    let below : c.loop-at.at < length c.loop-at.pairs.items = omega (arith, c.loop-at-test.true, c.len.ensures) in
    put_equal c.loop-at.pairs.items c.loop-at.at q c.args.key c.args.value below c.index.ensures e ∙ (sym h.1 ∙ ap (λ x. with x c.args.key c.args.value) h.0)
