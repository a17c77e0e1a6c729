use Rattle.std.proofs.Common.{◌≡◌, ◌∙◌, ◌∷◌, [], subst, IfOk}
use Rattle.ep_attr.specs.Attrs.{map_of_pairs, pairs_of}
use Rattle.ep_attr.proofs.attr_map.AttrMap.one.Goals as goal

pub returns : goal.returns
returns c =
    subst (λ x. IfOk c.kept.result (λ m. m ≡ x))
    ((λ i. map_of_pairs (pairs_of (c.in_ok-vec.ensures.items i)))
    ∙ (λ i. map_of_pairs ((c.in_ok-key.ensures i, c.in_ok-value.ensures i) ∷ [])))
    c.kept.ensures
