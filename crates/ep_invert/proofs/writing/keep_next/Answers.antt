use Rattle.std.proofs.Common.{◌≡◌, ◌∙◌, ℕ, take, length-take-le, subst}
use Rattle.std.proofs.lemmas.Result.{IfOk-weaker}
use Rattle.ep_invert.specs.Paint.{paint_steps}
use Rattle.ep_invert.specs.Writing.{GoesOn}
use Rattle.ep_invert.proofs.Writes.{lined_seen}
use Rattle.ep_invert.proofs.writing.keep_next.Goals as goal

pub keep_seen-requires-clause-lined : goal.keep_seen-requires-clause-lined
keep_seen-requires-clause-lined c = lined_seen c.pass-seen.result (take c.args.units c.args.rest.now) c.pass-seen.ensures.seen

pub returns-clause-written : goal.returns-clause-written
returns-clause-written c =
    let text = take c.args.units c.args.rest.now in
    let n : c.pass-seen.result.units ≡ c.args.units = c.pass-seen.ensures.seen.units ∙ length-take-le c.args.units c.args.rest.now c.requires.left in
    IfOk-weaker c.keep_seen.result _ _ (λ _ g. subst (λ (n : ℕ). GoesOn c.args.out.now c.keep_seen.new.out (paint_steps n c.args.attrs.now) text) n (g text c.pass-seen.ensures.seen)) c.keep_seen.ensures
