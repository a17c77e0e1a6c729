use Rattle.std.proofs.Common.{◌≡◌, ◌∙◌, sym, ap}
use Rattle.std.proofs.lemmas.Result.{err_from_is_err_and}
use Rattle.ep_step.specs.Texts.{lacking}
use Rattle.ep_step.proofs.Answering.{no_fault, refused_so, unrefused}
use Rattle.ep_step.proofs.Setting.{set-refusal}
use Rattle.ep_step.proofs.taking.Head.set_text.Goals as goal

pub returns-in_err-fits_limit-clause-refused : goal.returns-in_err-fits_limit-clause-refused
returns-in_err-fits_limit-clause-refused c =
    let p = err_from_is_err_and c.from_residual-in_err-fits_limit.result c.from_residual-in_err-fits_limit.ensures.1 in
    rw (p.1, p.2) (λ pad h there. refused_so _ _ _ _ _ (set-refusal pad c.args.self.now.limit c.args.self.now.doc.now c.args.text.now c.in_ok-text.text c.lacking.result h.limit h.doc there c.requires.line c.in_ok-text.ensures.clean c.lacking.ensures) c.in_err-fits_limit.ensures.refused)

pub returns-clause-refused : goal.returns-clause-refused
returns-clause-refused c = λ pad h there.
    unrefused _ _ (
    sym (set-refusal pad c.args.self.now.limit c.args.self.now.doc.now c.args.text.now c.in_ok-text.text c.lacking.result h.limit h.doc there c.requires.line c.in_ok-text.ensures.clean c.lacking.ensures)
    ∙ no_fault _ _ c.in_ok-fits_limit.ensures.refused
    )
