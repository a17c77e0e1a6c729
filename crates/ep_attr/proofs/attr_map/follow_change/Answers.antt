use Rattle.std.proofs.Common.{◌≡◌, ◌∙◌, sym, ap, subst, IfOk}
use Rattle.ep_attr.specs.AttrMap.{none, rest}
use Rattle.ep_attr.proofs.Maps.{none-rest}
use Rattle.ep_attr.proofs.SameMap.{exact_map}
use Rattle.ep_attr.proofs.attr_map.follow_change.Goals as goal

pub returns-then-is_none : goal.returns-then-is_none
returns-then-is_none c =
    subst (λ x. IfOk c.copy.result (λ m. m ≡ x))
    (sym (none-rest c.args.b.now) ∙ ap (λ m. rest m c.args.b.now) (sym (exact_map c.args.a.now none (sym c.is_none.ensures ∙ c.if-is_none.true))))
    c.copy.ensures
