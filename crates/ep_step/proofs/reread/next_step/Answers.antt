use Rattle.std.proofs.Common.{◌≡◌, rules, refl, sym, ap, ◌∙◌}
use Rattle.ep_cs.specs.Edit.{apply}
use Rattle.ep_cs.specs.Fits.{Fits}
use Rattle.ep_history.specs.History.{lacks_newline}
use Rattle.ep_step.specs.declared.step.Made.{Made}
use Rattle.ep_step.proofs.Reading.{ok-of, next-rev}
use Rattle.ep_step.proofs.reread.next_step.Goals as goal

pub returns-clause-next : goal.returns-clause-next
returns-clause-next c = λ pad session time author h there.
    let fits : Fits c.args.change c.args.head.now = c.fits.ensures.fits.0 (ok-of c.fits.result (sym c.is_err.ensures.value ∙ c.if-is_err.false)) in
    let same : c.args.fixed ≡ c.lacks_newline.result = search rules in
    let lacks : c.args.fixed ≡ lacks_newline (apply c.args.change.edit c.args.head.now) = same ∙ c.lacks_newline.ensures ∙ ap (λ (m : Made). lacks_newline m.doc) c.in_ok-edit.ensures in
    (λ _. next-rev pad session time author c.args.change c.args.fixed c.args.head.now h there fits c.ops-normal.ensures.normal lacks, λ _. refl)
