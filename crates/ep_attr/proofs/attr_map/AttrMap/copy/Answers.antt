use Rattle.std.proofs.Common.{◌∙◌, sym, ap, Vec, Global}
use Rattle.std.specs.Arc.{arc_value}
use Rattle.ep_attr.specs.Attrs.{held, map_of_pairs, pairs_of}
use Rattle.ep_attr.specs.declared.attr_map.Attr.{Attr}
use Rattle.ep_attr.proofs.attr_map.AttrMap.copy.Goals as goal

pub returns-in-None : goal.returns-in-None
returns-in-None c = ap (λ kept. map_of_pairs (pairs_of (held kept (λ k. (arc_value {X = Vec Attr Global} k).items)))) (sym c.in-None.is) ∙ c.self.view_is

pub returns-in_ok-try_clone-in-Some : goal.returns-in_ok-try_clone-in-Some
returns-in_ok-try_clone-in-Some c =
    ap (λ pairs. map_of_pairs (pairs_of pairs.items)) c.in_ok-try_clone-in-Some.ensures
    ∙ ap (λ kept. map_of_pairs (pairs_of (held kept (λ k. (arc_value {X = Vec Attr Global} k).items)))) (sym c.in-Some.is) ∙ c.self.view_is
