use Rattle.std.proofs.Common.{ℕ, subst}
use Rattle.std.proofs.lemmas.Result.{IfOk-weaker}
use Rattle.ep_invert.specs.Paint.{paint_steps}
use Rattle.ep_invert.specs.Writing.{GoesOn}
use Rattle.ep_invert.proofs.Writes.{lined_seen}
use Rattle.ep_invert.proofs.writing.keep_text.Goals as goal

pub keep_seen-requires-clause-lined : goal.keep_seen-requires-clause-lined
keep_seen-requires-clause-lined c = lined_seen c.of.result c.args.text.now c.of.ensures

pub returns : goal.returns
returns c =
    let text = c.args.text.now in
    IfOk-weaker c.keep_seen.result _ _ (λ _ g. subst (λ (n : ℕ). GoesOn c.args.out.now c.keep_seen.new.out (paint_steps n c.args.attrs.now) text) c.of.ensures.units (g text c.of.ensures)) c.keep_seen.ensures
