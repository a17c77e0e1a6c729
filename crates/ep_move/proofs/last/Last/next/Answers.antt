use Rattle.std.proofs.Common.{◌≡◌, T, Option, refl, sym, ap, ◌∙◌, ◌++◌, subst}
use Rattle.std.specs.Prelude.{IsSome}
use Rattle.ep_cs.specs.Fits.{Fits}
use Rattle.ep_history.specs.History.{By, head_doc, made, step_revs}
use Rattle.ep_history.specs.Pad.{newest}
use Rattle.ep_pad_state.proofs.Telling.{some-of}
use Rattle.ep_step.specs.Step.{step_of}
use Rattle.ep_step.specs.declared.step.Step.{Step}
use Rattle.ep_move.proofs.Births.{there_longer}
use Rattle.ep_move.proofs.last.Last.next.Goals as goal

pub returns-in-None : goal.returns-in-None
returns-in-None c = λ p h n.
    let x = c.in_ok-step.ensures.next p c.args.session c.args.time c.args.author h.doc h.present in
    absurd (subst T (sym (subst (λ (o : Option Step). IsSome o) c.in-None.is (x.1 n))) tt)

pub push-requires : goal.push-requires
push-requires c =
    let s = c.in-Some.step in
    let is = some-of (λ (t : Step). t ≡ step_of c.args.change.edit c.args.self.now.doc) c.in_ok-step.step s c.in-Some.is c.in_ok-step.ensures.step in
    let fits = some-of (λ (t : Step). Fits t.edit.change c.args.self.now.doc) c.in_ok-step.step s c.in-Some.is c.in_ok-step.ensures.fits in
    c.into_revs-revised.ensures.made c.args.change.edit c.args.self.now.doc is fits

pub returns-in_ok-push-in-Some : goal.returns-in_ok-push-in-Some
returns-in_ok-push-in-Some c = λ p h.
    let s = c.in-Some.step in
    let old = c.args.self.now in
    let is = some-of (λ (t : Step). t ≡ step_of c.args.change.edit old.doc) c.in_ok-step.step s c.in-Some.is c.in_ok-step.ensures.step in
    let by : By = record { author = c.args.author; session = c.args.session; time = c.args.time } in
    let vs = step_revs by c.args.change.edit (head_doc (newest p)) in
    let e = c.into_revs-revised.ensures.revs c.args.change.edit old.doc is ∙ ap (λ doc. step_revs by c.args.change.edit doc) h.doc in
    let x = c.in_ok-step.ensures.next p c.args.session c.args.time c.args.author h.doc h.present in (
      x.0 (subst (λ (o : Option Step). IsSome o) (sym c.in-Some.is) refl),
      there_longer old c.push.new.self p vs h (c.in_ok-push-in-Some.ensures.revs ∙ ap (λ us. old.revs.items ++ us) e) (c.in_ok-push-in-Some.ensures.doc ∙ ap (made old.doc) e),
    )
