use Rattle.std.proofs.Common.{◌∷◌, ◌+◌, drop, sym, ap, ◌∙◌, subst}
use Rattle.std.proofs.lemmas.List.{drop_more}
use Rattle.ep_slider.proofs.Steps.{IsAtOnce, one_more}
use Rattle.ep_slider.proofs.sliding.at_once.Goals as goal

pub loop-change-preserved : goal.loop-change-preserved
loop-change-preserved c =
    let later = c.args.later.now in
    let rest = drop (c.loop-change.change-index + 1) later in
    let next = drop_more later c.loop-change.change-index c.change-item.result c.loop-change-test.true ∙ ap (λ d. d ∷ rest) (sym c.change-item.is) in
    one_more c.args.first.now later c.loop-change.both c.change-item.result c.in_ok-both-2.both rest (subst (IsAtOnce c.args.first.now later c.loop-change.both) next c.loop-change.invariant) c.in_ok-both-2.ensures.both
