use Rattle.std.proofs.Common.{sym, ap, ◌∙◌, subst}
use Rattle.ep_cs.specs.Edit.{apply}
use Rattle.ep_cs.specs.Fits.{Fits}
use Rattle.ep_cs.specs.Made.{AreMade, after_all}
use Rattle.ep_follow.proofs.OnItsWay.{made_more, after_more}
use Rattle.ep_bench.proofs.two.made_since.Goals as goal

pub loop-preserved : goal.loop-preserved
loop-preserved c =
    let doc = c.args.doc.now in
    let cs = c.loop.changes.items in
    let change = c.in_ok-change.change in
    let fits = subst (Fits change) c.loop.invariant.1 c.in_ok-change.ensures in (
      subst (AreMade doc) (sym c.in_ok-push.ensures.items) (made_more doc cs change c.loop.invariant.0 fits),
      c.in_ok-now-2.ensures ∙ ap (apply change.edit) c.loop.invariant.1 ∙ sym (after_more doc cs change) ∙ ap (after_all doc) (sym c.in_ok-push.ensures.items),
    )
