use Rattle.std.proofs.Common.{◌∙◌, sym, ap}
use Rattle.std.proofs.lemmas.Result.{on_ok_weaker}
use Rattle.ep_attr.specs.AttrMap.{AttrMap, none}
use Rattle.ep_attr.proofs.SameMap.{exact_map}
use Rattle.ep_cs.specs.Draft.{keeping}
use Rattle.ep_cs.proofs.builder.Builder.keep.Goals as goal

pub returns-then-is_none-clause-ok : goal.returns-then-is_none-clause-ok
returns-then-is_none-clause-ok c =
    let bare = exact_map c.args.attrs.now none (sym c.is_none.ensures ∙ c.if-is_none.true) in
    on_ok_weaker c.keep_bare.result (λ e. e ∙ ap (λ (m : AttrMap). keeping c.args.self.now c.args.units c.args.lines m) (sym bare)) c.keep_bare.ensures.ok
