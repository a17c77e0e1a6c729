use Rattle.std.proofs.Common.{◌≡◌, ◌∙◌, sym, ap, subst, IfOk}
use Rattle.ep_attr.specs.AttrMap.{none, after}
use Rattle.ep_attr.proofs.Maps.{after-none}
use Rattle.ep_attr.proofs.SameMap.{exact_map}
use Rattle.ep_attr.proofs.attr_map.AttrMap.apply_doc.Goals as goal

pub returns-then-is_none : goal.returns-then-is_none
returns-then-is_none c =
    subst (λ x. IfOk c.copy.result (λ m. m ≡ x))
    (sym (after-none c.args.self.now) ∙ ap (after c.args.self.now) (sym (exact_map c.args.change.now none (sym c.is_none.ensures ∙ c.if-is_none.true))))
    c.copy.ensures
