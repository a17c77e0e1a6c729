use Rattle.std.proofs.Common.{◌≡◌, None, true, inl, sym, ap, ◌∙◌}
use Rattle.std.proofs.lemmas.Result.{err_from_is_err_and}
use Rattle.ep_history.specs.Pad.{with_session}
use Rattle.ep_history.specs.Refusals.{login_fault}
use Rattle.ep_history.specs.Entries.Answer.{LoginAnswer}
use Rattle.ep_history.specs.Entries.Outcome.{Answers}
use Rattle.ep_pad_state.proofs.Outcomes.{login-refused, login-entered}
use Rattle.ep_pad_state.proofs.Telling.{said-bad, said-none}
use Rattle.ep_pad_state.proofs.pad.Pad.login.Goals as goal

pub returns-in_err-check_login-clause-answer : goal.returns-in_err-check_login-clause-answer
returns-in_err-check_login-clause-answer c = λ p h.
    let r = err_from_is_err_and c.from_residual.result c.from_residual.ensures.1 in
    rw (r.1, r.2) (inl (login-refused p c.args.grant.now c.args.now _ (said-bad _ _ (c.in_err-check_login.ensures.refused p h.keeps.seats (c.facts.ensures p h.keeps)))), h)

pub returns-in_ok-enter-clause-answer : goal.returns-in_ok-enter-clause-answer
returns-in_ok-enter-clause-answer c = λ p h.
    let g = c.args.grant.now in
    let none : login_fault p g ≡ None = said-none _ (c.in_ok-check_login.ensures.refused p h.keeps.seats (c.facts.ensures p h.keeps)) in
    let x = c.present.ensures p h.keeps.last in
    let t : p.present ≡ true = sym x ∙ c.if-present.true in
    let e = c.in_ok-enter.ensures p h t in
    (with_session p g.author g.read_only, login-entered p g c.args.now none t ∙ ap (λ y. Answers (LoginAnswer y) (with_session p g.author g.read_only)) (sym e.0), e.1)
