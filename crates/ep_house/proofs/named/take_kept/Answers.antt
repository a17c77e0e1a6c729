use Rattle.std.proofs.Common.{◌≡◌, ◌∙◌, ◌<◌, All, ap, sym, subst, arith, length, true, false}
use Rattle.std.specs.Prelude.{bytes_eq}
use Rattle.ep_house.specs.Register.{without}
use Rattle.ep_house.specs.Named.{MayWait, waits_of, wait_of}
use Rattle.ep_house.proofs.Finding.{holds_at, holds_without, looks_here, looks_on}
use Rattle.ep_house.proofs.named.take_kept.Goals as goal

pub returns-then-is_same-clause-taken : goal.returns-then-is_same-clause-taken
returns-then-is_same-clause-taken g c =
    let i = c.loop-at.invariant in
    let lt : c.loop-at.at < length c.loop-at.kept.items = omega (arith, c.loop-at-test.true, c.len.ensures) in
    let same : bytes_eq c.args.name.now c.index.result.now.name ≡ true = sym c.is_same.ensures ∙ c.if-is_same.true in
    let l = looks_here wait_of c.loop-at.kept.items c.loop-at.at c.index.result.now c.remove-what.result c.args.name.now lt c.index.ensures c.remove-what.ensures.value same i.1 in
    ap (waits_of wait_of) c.remove-what.ensures.items ∙ (l.1 ∙ ap (λ k. without (waits_of wait_of k.items) c.args.name.now) i.0)

pub returns-then-is_same-clause-within : goal.returns-then-is_same-clause-within
returns-then-is_same-clause-within g c = λ limits_of limits all.
    let lt : c.loop-at.at < length c.loop-at.kept.items = omega (arith, c.loop-at-test.true, c.len.ensures) in
    let here : All (λ k. MayWait limits_of limits k.what) c.loop-at.kept.items = subst (λ v. All (λ k. MayWait limits_of limits k.what) v.items) (sym c.loop-at.invariant.0) all in (
      subst (All (λ k. MayWait limits_of limits k.what)) (sym c.remove-what.ensures.items) (holds_without (λ k. MayWait limits_of limits k.what) c.loop-at.kept.items c.loop-at.at here),
      holds_at (λ k. MayWait limits_of limits k.what) c.loop-at.kept.items c.loop-at.at c.remove-what.result lt c.remove-what.ensures.value here,
    )

pub returns-clause-within : goal.returns-clause-within
returns-clause-within g c = λ limits_of limits all. (subst (λ v. All (λ k. MayWait limits_of limits k.what) v.items) (sym c.loop-at.invariant.0) all, tt)

pub loop-at-smaller : goal.loop-at-smaller
loop-at-smaller g c = omega (arith, c.loop-at-test.true, c.len.ensures)

pub loop-at-preserved : goal.loop-at-preserved
loop-at-preserved g c =
    let i = c.loop-at.invariant in
    let lt : c.loop-at.at < length c.loop-at.kept.items = omega (arith, c.loop-at-test.true, c.len.ensures) in
    let differs : bytes_eq c.args.name.now c.index.result.now.name ≡ false = sym c.is_same.ensures ∙ c.if-is_same.false in
    (i.0, looks_on wait_of c.loop-at.kept.items c.loop-at.at c.index.result.now c.args.name.now lt c.index.ensures differs i.1)
