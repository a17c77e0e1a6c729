use Rattle.std.proofs.Common.{◌≡◌, false, None, length, inl, inr, refl, sym, ap, ◌∙◌, rules}
use Rattle.std.proofs.lemmas.Result.{err_from_is_err_and}
use Rattle.ep_history.specs.Accept.{at_head}
use Rattle.ep_history.specs.History.{head_doc, step_revs}
use Rattle.ep_history.specs.Pad.{newest}
use Rattle.ep_history.specs.declared.seat.Seat.{Seat}
use Rattle.ep_outside.specs.declared.limits.Limits.{Limits}
use Rattle.ep_revs.specs.Revisions.{last_doc}
use Rattle.ep_step.specs.declared.taking.Taken.{Taken}
use Rattle.ep_step.specs.declared.step.Step.{Step}
use Rattle.ep_step.specs.Revised.{revs_of}
use Rattle.ep_history.specs.declared.record.Record.{Record}
use Rattle.ep_pad_state.specs.Making.{author_in, by_author}
use Rattle.ep_pad_state.proofs.Keeping.{absent-of, birth-of, head-doc-of, same-birth, same-pad}
use Rattle.ep_pad_state.proofs.Outcomes.{accept-refused, live-seat, seat-refusal}
use Rattle.ep_pad_state.proofs.Pads.{live-there}
use Rattle.ep_pad_state.proofs.Readying.{by-another, own-step, ready-nop, ready-step}
use Rattle.ep_pad_state.proofs.Taking.{accept-nop, accept-step, not-refused, own-taken, refused-by, step-of-taken}
use Rattle.ep_pad_state.proofs.Telling.{not-both}
use Rattle.ep_pad_state.proofs.pad.Pad.take.Goals as goal

pub returns-in-Gone-clause-answer : goal.returns-in-Gone-clause-answer
returns-in-Gone-clause-answer c = λ p h.
    let d = live-seat p c.args.session (record { author = c.in_ok-author.author.now; read_only = false; end = None }) (sym (c.in_ok-author.ensures.writes p h.keeps.seats)) refl in
    not-both p.present (live-there p c.args.session h.sound d) (absent-of c.args.self.now _ p h.keeps c.in-Gone.is)

pub returns-in_err-taken-clause-answer : goal.returns-in_err-taken-clause-answer
returns-in_err-taken-clause-answer c = λ p h.
    let reserved = same-pad c.args.self.now p c.in-There.birth c.reserve.new.self h c.in-There.is c.in_ok-reserve.ensures.revs c.in_ok-reserve.ensures.nops in
    let is = birth-of _ c.reserve.new.self p reserved.keeps refl in
    let l : Seat = record { author = c.in_ok-author.author.now; read_only = false; end = None } in
    let f = sym (c.in_ok-author.ensures.writes p h.keeps.seats) in
    let s = seat-refusal p c.args.session c.args.base c.args.change l f refl in
    let why = refused-by Taken _ _ (c.in_err-taken.ensures.refused p l is.revs (ap (λ (l : Limits). l.units) h.keeps.limits) refl refl) in
    let r = err_from_is_err_and c.from_residual-in_err-taken.result c.from_residual-in_err-taken.ensures.1 in (
      reserved,
      rw (r.1, r.2) (elim why [
        | inl e ↦ inl (accept-refused p c.args.session c.args.base c.args.change c.args.now _ (s ∙ e))
        | inr e ↦ inr e
      ]),
    )

pub revisions-revised-requires-clause-step : goal.revisions-revised-requires-clause-step
revisions-revised-requires-clause-step c =
    let o = own-taken c.reserve.new.self c.args.self.now.limits.units c.in_ok-author.author.now c.args.base c.args.change c.in_ok-taken.taken c.reserve.new.self.some c.in_ok-taken.ensures.taken in
    let doc = last_doc c.reserve.new.self.revs.revs in
    own-step c.in-Step.step o.0 doc (step-of-taken o.0 doc c.in-Step.step (sym c.in-Step.is ∙ o.1))

pub returns-in_ok-reserve_nop-in-Nop-clause-answer : goal.returns-in_ok-reserve_nop-in-Nop-clause-answer
returns-in_ok-reserve_nop-in-Nop-clause-answer c = λ p h.
    let reserved = same-pad c.args.self.now p c.in-There.birth c.reserve.new.self h c.in-There.is c.in_ok-reserve.ensures.revs c.in_ok-reserve.ensures.nops in
    let is = birth-of _ c.reserve.new.self p reserved.keeps refl in
    let l : Seat = record { author = c.in_ok-author.author.now; read_only = false; end = None } in
    let f = sym (c.in_ok-author.ensures.writes p h.keeps.seats) in
    let s = seat-refusal p c.args.session c.args.base c.args.change l f refl in
    let units = ap (λ (l : Limits). l.units) h.keeps.limits in
    let none = not-refused Taken _ c.in_ok-taken.taken (c.in_ok-taken.ensures.refused p l is.revs units refl refl) in
    let t = c.in_ok-taken.ensures.taken p l is.revs units refl refl in
    let n = c.last-last.ensures.number (newest p) is in (
      record { keeps = same-birth _ p _ c.reserve_nop.new.self reserved.keeps refl c.in_ok-reserve_nop-in-Nop.ensures.revs c.in_ok-reserve_nop-in-Nop.ensures.nops; sound = h.sound },
      accept-nop p c.args.session c.args.base c.args.change c.args.now l _ c.last-last.result _ f (s ∙ none) (sym c.in-Nop.is ∙ t) n (c.in_ok-answer.ensures p (at_head p c.args.base c.args.change.edit) n t),
    )

pub returns-in_ok-reserve_nop-in-Nop-clause-ready : goal.returns-in_ok-reserve_nop-in-Nop-clause-ready
returns-in_ok-reserve_nop-in-Nop-clause-ready c = ready-nop _ c.reserve_nop.new.self _ refl c.in_ok-reserve_nop-in-Nop.ensures.room (ap length c.in_ok-reserve_nop-in-Nop.ensures.revs ∙ c.last-last.ensures.count)

pub returns-in_ok-kept-in-Step-clause-answer : goal.returns-in_ok-kept-in-Step-clause-answer
returns-in_ok-kept-in-Step-clause-answer c = λ p h.
    let reserved = same-pad c.args.self.now p c.in-There.birth c.reserve.new.self h c.in-There.is c.in_ok-reserve.ensures.revs c.in_ok-reserve.ensures.nops in
    let is = birth-of _ c.reserve.new.self p reserved.keeps refl in
    let l : Seat = record { author = c.in_ok-author.author.now; read_only = false; end = None } in
    let f = sym (c.in_ok-author.ensures.writes p h.keeps.seats) in
    let s = seat-refusal p c.args.session c.args.base c.args.change l f refl in
    let units = ap (λ (l : Limits). l.units) h.keeps.limits in
    let none = not-refused Taken _ c.in_ok-taken.taken (c.in_ok-taken.ensures.refused p l is.revs units refl refl) in
    let t = c.in_ok-taken.ensures.taken p l is.revs units refl refl in
    let n = c.last-last.ensures.number (newest p) is in
    let e = at_head p c.args.base c.args.change.edit in
    let own = step-of-taken e (head_doc (newest p)) c.in-Step.step (sym c.in-Step.is ∙ t) in
    let edit = ap (λ (x : Step). x.edit.change.edit) own in
    let doc = head-doc-of c.reserve.new.self (newest p) is.revs in
    let r = c.revisions-revised.result in
    let author = author_in c.in_ok-kept-in-Step.kept r.edit.rev.author in
    let named : author ≡ c.in_ok-author.author.now = ap (λ (x : Record). author_in x r.edit.rev.author) (c.in_ok-kept-in-Step.ensures p e own) in (
      reserved,
      accept-step p c.args.session c.args.base c.args.change c.args.now l c.in-Step.step c.in_ok-kept-in-Step.kept (revs_of (by_author author r)) _ f (s ∙ none)
          (sym c.in-Step.is ∙ t) (c.in_ok-kept-in-Step.ensures p e own)
          (by-another r author _ _ _ c.revisions-revised.ensures.revs
          ∙ (λ i. step_revs (record { author = named i; session = c.args.session; time = c.args.now }) (edit i) (doc i)))
          (c.in_ok-answer.ensures p e n t),
    )

pub returns-in_ok-kept-in-Step-clause-ready : goal.returns-in_ok-kept-in-Step-clause-ready
returns-in_ok-kept-in-Step-clause-ready c =
    ready-step _ c.reserve.new.self _ _ c.in-Step.step.edit.change c.in_ok-kept-in-Step.kept refl c.revisions-revised.ensures.grows c.revisions-revised.ensures.revs (search rules) c.revisions-revised.ensures.edit

pub returns-in_err-kept-in-Step-clause-answer : goal.returns-in_err-kept-in-Step-clause-answer
returns-in_err-kept-in-Step-clause-answer c = λ p h.
    let r = err_from_is_err_and c.from_residual-in_err-kept-in-Step.result c.from_residual-in_err-kept-in-Step.ensures.1 in (
      same-pad c.args.self.now p c.in-There.birth c.reserve.new.self h c.in-There.is c.in_ok-reserve.ensures.revs c.in_ok-reserve.ensures.nops,
      rw (r.1, r.2) (inr refl),
    )
