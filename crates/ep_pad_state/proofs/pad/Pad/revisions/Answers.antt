use Rattle.std.proofs.Common.{T, ◌≡◌, Option, refl, sym, ap, ◌∙◌, subst}
use Rattle.std.specs.Prelude.{IsSome}
use Rattle.ep_history.specs.History.{step_revs}
use Rattle.ep_history.specs.Pad.{newest, with_revs}
use Rattle.ep_cs.specs.Fits.{Fits}
use Rattle.ep_step.specs.declared.step.Step.{Step}
use Rattle.ep_step.specs.Step.{step_of}
use Rattle.ep_pad_state.proofs.Keeping.{present-of, birth-of, head-doc-of}
use Rattle.ep_pad_state.proofs.Readying.{ready-revs}
use Rattle.ep_pad_state.proofs.Telling.{some-of}
use Rattle.ep_pad_state.proofs.pad.Pad.revisions.Goals as goal

pub returns-in-None-clause-next : goal.returns-in-None-clause-next
returns-in-None-clause-next c = λ p h n.
    let d = c.doc.ensures.document (newest p) (birth-of _ c.reserve.new.self p h.keeps refl) in
    let x = c.in_ok-step.ensures.next p c.args.session c.args.time c.args.author d (present-of _ c.reserve.new.self p h.keeps refl) in
    absurd (subst T (sym (subst (λ (o : Option Step). IsSome o) c.in-None.is (x.1 n))) tt)

pub returns-in-Some-clause-next : goal.returns-in-Some-clause-next
returns-in-Some-clause-next c =
    let s = c.in-Some.step in
    let made = some-of (λ (t : Step). t ≡ step_of c.args.change.edit c.doc.result.now) c.in_ok-step.step s c.in-Some.is c.in_ok-step.ensures.step in
    let fits = some-of (λ (t : Step). Fits t.edit.change c.doc.result.now) c.in_ok-step.step s c.in-Some.is c.in_ok-step.ensures.fits in
    let edit = ap (λ (t : Step). t.edit.change.edit) made in (
      ready-revs _ c.reserve.new.self _ _ s.edit.change refl c.revisions-revised.ensures.grows c.revisions-revised.ensures.revs
          (subst (λ doc. Fits s.edit.change doc) c.doc.ensures.last fits) c.revisions-revised.ensures.edit,
      λ p h.
          let b = birth-of _ c.reserve.new.self p h.keeps refl in
          let t = present-of _ c.reserve.new.self p h.keeps refl in
          let x = c.in_ok-step.ensures.next p c.args.session c.args.time c.args.author (c.doc.ensures.document (newest p) b) t in
          let doc = head-doc-of c.reserve.new.self (newest p) b.revs in (
            x.0 (subst (λ (o : Option Step). IsSome o) (sym c.in-Some.is) refl),
            ap (with_revs p) (c.revisions-revised.ensures.revs ∙ (λ i. step_revs (record { author = c.args.author; session = c.args.session; time = c.args.time }) (edit i) (doc i))),
          ),
    )
