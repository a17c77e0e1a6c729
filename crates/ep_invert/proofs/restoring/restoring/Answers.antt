use Rattle.std.proofs.Common.{◌≡◌, ◌++◌, append-nil, sym, ap, ◌∙◌, arith}
use Rattle.std.proofs.lemmas.List.{drop_all}
use Rattle.std.proofs.lemmas.Result.{IfOk-weaker}
use Rattle.ep_attr.specs.AttrMap.{of_pairs}
use Rattle.ep_attr.specs.Attrs.{pairs_of}
use Rattle.ep_invert.specs.Restored.{pairs_back}
use Rattle.ep_invert.proofs.Restored.{back_is}
use Rattle.ep_invert.proofs.restoring.restoring.Goals as goal

pub returns : goal.returns
returns c =
    let a = c.args.attrs.now in
    let items = c.pairs-pair-items.result.now in
    let made = pairs_of c.loop-pair.made.items in
    let all : pairs_of c.deref.result.now ≡ pairs_back a c.args.change.now.pairs =
    ap pairs_of c.deref.ensures.value ∙ sym (append-nil made)
    ∙ ap (λ xs. made ++ pairs_back a (pairs_of xs)) (sym (drop_all c.loop-pair.pair-index items (omega (arith, c.loop-pair-test.false))))
    ∙ c.loop-pair.invariant ∙ ap (pairs_back a) c.pairs-pair-items.ensures in
    IfOk-weaker c.read.result _ _ (λ m e. e ∙ ap of_pairs all ∙ back_is a c.args.change.now) c.read.ensures
