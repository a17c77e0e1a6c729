use Rattle.std.proofs.Common.{◌≡◌, ◌∙◌, sym, ap, subst, IfOk}
use Rattle.ep_attr.specs.AttrMap.{none, join}
use Rattle.ep_attr.proofs.Maps.{join-none, none-join}
use Rattle.ep_attr.proofs.SameMap.{exact_map}
use Rattle.ep_attr.proofs.attr_map.AttrMap.compose_change.Goals as goal

pub returns-then-is_none : goal.returns-then-is_none
returns-then-is_none c =
    subst (λ x. IfOk c.copy.result (λ m. m ≡ x))
    (sym (join-none c.args.self.now) ∙ ap (join c.args.self.now) (sym (exact_map c.args.later.now none (sym c.is_none.ensures ∙ c.if-is_none.true))))
    c.copy.ensures

pub returns-then-is_none-2 : goal.returns-then-is_none-2
returns-then-is_none-2 c =
    subst (λ x. IfOk c.copy-then-is_none-2.result (λ m. m ≡ x))
    (sym (none-join c.args.later.now) ∙ ap (λ m. join m c.args.later.now) (sym (exact_map c.args.self.now none (sym c.is_none-2.ensures ∙ c.if-is_none-2.true))))
    c.copy-then-is_none-2.ensures
