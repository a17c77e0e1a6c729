use Rattle.std.proofs.Common.{◌≡◌, [], List, subst, sym}
use Rattle.std.specs.List.{Any}
use Rattle.ep_attr.specs.AttrMap.{Pair}
use Rattle.ep_cs.proofs.NewMaps.{after_without_empty, any_pair, not_both}
use Rattle.ep_cs.proofs.new_map.without_empty.Goals as goal

pub returns-else-has_empty : goal.returns-else-has_empty
returns-else-has_empty c =
    let P : List Pair → Type 0 = λ ps. Any (λ (p : Pair). p.1 ≡ []) ps in
    after_without_empty c.args.attrs (λ a. not_both c.has_empty.result c.if-has_empty.false (c.has_empty.ensures.1 (any_pair c.pairs.result.now (subst P (sym c.pairs.ensures) a))))
