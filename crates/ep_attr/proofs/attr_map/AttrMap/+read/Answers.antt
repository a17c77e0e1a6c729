use Rattle.std.proofs.Common.{◌≡◌, ◌∙◌, sym, ap, subst, IfOk}
use Rattle.std.proofs.lemmas.List.{map-append}
use Rattle.ep_attr.specs.AttrMap.{of_pairs, join}
use Rattle.ep_attr.specs.Attrs.{pairs_of}
use Rattle.ep_attr.proofs.Maps.{of_pairs-append}
use Rattle.ep_attr.proofs.attr_map.AttrMap.+read.Goals as goal

pub returns-in_ok-rear-in_default : goal.returns-in_ok-rear-in_default
returns-in_ok-rear-in_default t c =
    let front = c.split_at.result.0.now in
    let rear = c.split_at.result.1.now in
    subst (λ x. IfOk c.compose_change.result (λ m. m ≡ x))
    ((λ i. join (c.in_ok-front-in_default.ensures i) (c.in_ok-rear-in_default.ensures i))
    ∙ sym (of_pairs-append (pairs_of front) (pairs_of rear))
    ∙ ap of_pairs (sym (map-append _ front rear))
    ∙ ap (λ pairs. of_pairs (pairs_of pairs)) (sym c.split_at.ensures.by_index.0))
    c.compose_change.ensures
