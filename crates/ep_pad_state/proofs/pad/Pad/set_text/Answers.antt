use Rattle.std.proofs.Common.{rules, [], ◌≡◌, ℕ, ◌+◌, suc, false, refl, ap, ◌∙◌, arith}
use Rattle.ep_history.specs.History.{By, head, head_doc, step_revs}
use Rattle.ep_history.specs.Pad.{newest, with_revs}
use Rattle.ep_history.specs.Server.{set_edit, set_head}
use Rattle.ep_units.specs.Clean.{clean}
use Rattle.ep_units.specs.Text.{Text}
use Rattle.ep_history.specs.Records.{rev_record}
use Rattle.ep_outside.specs.declared.limits.Limits.{Limits}
use Rattle.ep_step.specs.Step.{step_of}
use Rattle.ep_step.specs.declared.step.Step.{Step}
use Rattle.ep_history.specs.declared.record.Record.{Record}
use Rattle.ep_pad_state.specs.Making.{author_in}
use Rattle.ep_pad_state.proofs.Keeping.{birth-of, head-doc-of, present-of, same-pad}
use Rattle.ep_pad_state.proofs.Outcomes.{set-taken}
use Rattle.ep_pad_state.proofs.Readying.{by-another, ready-step}
use Rattle.ep_pad_state.proofs.Taking.{not-refused}
use Rattle.ep_pad_state.proofs.pad.Pad.set_text.Goals as goal

abbrev by_of : Text → ℕ → By
by_of author now = record { author = author; session = record { epoch = 0; count = 0 }; time = now }

pub returns-clause-answer : goal.returns-clause-answer
returns-clause-answer c = λ p h.
    let reserved = same-pad c.args.self.now p c.in-There.birth c.reserve.new.self h c.in-There.is c.in_ok-reserve.ensures.revs c.in_ok-reserve.ensures.nops in
    let is = birth-of _ c.reserve.new.self p reserved.keeps refl in
    let it = c.head-head.ensures.head p is.revs (ap (λ (l : Limits). l.units) h.keeps.limits) in
    let none = not-refused Step _ c.in_ok-step.step (c.in_ok-step.ensures.refused p it (present-of _ _ p h.keeps c.in-There.is)) in
    let made : c.in_ok-step.step ≡ step_of (set_head p c.args.text.now) (head_doc (newest p)) =
    c.in_ok-step.ensures.made ∙ (λ i. step_of (set_edit (clean c.args.text.now) (it.doc i)) (it.doc i)) in
    let nobody = ap (λ (a : Text). by_of a c.args.now) c.new-nobody.ensures in
    let kept = c.in_ok-kept.ensures p (set_head p c.args.text.now) made ∙ (λ i. rev_record p (nobody i) (set_head p c.args.text.now)) in
    let r = c.revisions-revised.result in
    let author = author_in c.in_ok-kept.kept r.edit.rev.author in
    let named : author ≡ [] = ap (λ (x : Record). author_in x r.edit.rev.author) kept in
    let edit = ap (λ (x : Step). x.edit.change.edit) made in
    let doc = head-doc-of c.reserve.new.self (newest p) is.revs in
    let rev : c.head-head.result.rev + 1 ≡ suc (head (newest p)) = omega (arith, it.rev) in
    let change = c.in_ok-copy.ensures ∙ ap (λ (x : Step). x.edit.change) made in (
      reserved,
      set-taken p c.args.text.now c.args.now c.in_ok-kept.kept _ _ none kept
          (λ i. record { rev = rev i; fixed = c.fixed.ensures (set_head p c.args.text.now) (head_doc (newest p)) made i; nop = false; change = change i })
          (ap (with_revs p) (by-another r author _ _ _ c.revisions-revised.ensures.revs ∙ (λ i. step_revs (by_of (named i) c.args.now) (edit i) (doc i)))),
    )

pub returns-clause-ready : goal.returns-clause-ready
returns-clause-ready c = ready-step _ _ _ _ c.in_ok-step.step.edit.change c.in_ok-kept.kept refl c.revisions-revised.ensures.grows c.revisions-revised.ensures.revs (search rules) c.revisions-revised.ensures.edit
