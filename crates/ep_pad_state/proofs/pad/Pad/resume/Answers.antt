use Rattle.std.proofs.Common.{inl, sym, ap, ◌∙◌}
use Rattle.std.proofs.lemmas.Result.{err_from_is_err_and}
use Rattle.ep_history.specs.Pad.{newest, with_session}
use Rattle.ep_history.specs.Entries.Answer.{ResumeAnswer}
use Rattle.ep_history.specs.Entries.Outcome.{Answers}
use Rattle.ep_pad_state.proofs.Outcomes.{resume-refused, resume-entered, resume-there}
use Rattle.ep_pad_state.proofs.Telling.{said-bad, said-none, caught-up}
use Rattle.ep_pad_state.proofs.pad.Pad.resume.Goals as goal

pub returns-in_err-check_resume : goal.returns-in_err-check_resume
returns-in_err-check_resume c = λ now p h.
    let r = err_from_is_err_and c.from_residual.result c.from_residual.ensures.1 in
    rw (r.1, r.2)
    (inl (resume-refused p c.args.grant.now c.args.rev c.args.birth _ now _ (said-bad _ _ (c.in_err-check_resume.ensures.refused p h.keeps.seats (c.facts.ensures p h.keeps)))), h)

pub returns : goal.returns
returns c = λ now p h.
    let g = c.args.grant.now in
    let none = said-none _ (c.in_ok-check_resume.ensures.refused p h.keeps.seats (c.facts.ensures p h.keeps)) in
    let t = resume-there p g c.args.rev c.args.birth _ none in
    let b = (c.in_ok-last.ensures p h.keeps).1 in
    let e = c.in_ok-session.ensures.session p h t in
    let up = caught-up p _ _ _ _ e.0 (c.last-head.ensures.number (newest p) b) (c.in_ok-session.ensures.births ∙ sym h.keeps.births) (c.edited-time.ensures (newest p) b) in
    (with_session p g.author g.read_only, resume-entered p g c.args.rev c.args.birth _ now none ∙ ap (λ y. Answers (ResumeAnswer y) (with_session p g.author g.read_only)) (sym up), e.1)
