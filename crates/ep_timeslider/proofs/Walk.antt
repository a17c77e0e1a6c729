-- Where the steps are those of a history, they lead to its documents.
use Rattle.std.specs.Prelude.{IfOk}
use Rattle.std.proofs.Common.{◌≡◌, ℕ, ◌==◌, nat_lt, Bool, true, false, not, ◌&&◌, if◌then◌else◌, List, [], ◌∷◌, Option, Some, None, Result, Ok, Err, refl, sym, ap, ◌∙◌, arith}
use Rattle.std.proofs.lemmas.Bool.Decides.{nat_tests}
use Rattle.ep_attr.proofs.SameMap.{first_true}
use Rattle.ep_cs.specs.Change.{Change}
use Rattle.ep_cs.specs.Doc.{Doc}
use Rattle.ep_cs.specs.Edit.{apply}
use Rattle.ep_cs.specs.Fitting.{fit_bad}
use Rattle.ep_cs.specs.declared.bad.FitBad.{FitBad}
use Rattle.ep_client.specs.declared.bad.ClientBad.{ClientBad}
use Rattle.ep_timeslider.specs.Steps.{AreStepsOf, IsStepOf, all_back, all_on, and_then, leads, led, one_back, one_on, walked}
use Rattle.ep_timeslider.specs.declared.slider.Place.{Place}
use Rattle.ep_timeslider.specs.declared.slider.Step.{Step}

-- it stands in the history
abbrev pub IsAt : (ℕ → Doc) → Place → Type 0
IsAt docs at = at.doc ≡ docs at.rev

led-at : (docs : ℕ → Doc) (o : Option FitBad) (c : Change) (rev : ℕ) (doc : Doc) → apply c.edit doc ≡ docs rev → IfOk (led o c rev doc) (IsAt docs)
led-at docs None c rev doc e = e
led-at docs (Some why) c rev doc e = tt

pub same_number : (a b : ℕ) → (a == b) ≡ true → a ≡ b
same_number a b h = grind (arith, nat_tests)

on-at : (docs : ℕ → Doc) (to : ℕ) (s : Step) (at : Place) → IsStepOf docs s → IsAt docs at → IfOk (one_on to s at) (IsAt docs)
on-at docs to s at h e = go (s.from == at.rev && not (nat_lt to s.to)) refl
  where
    go : (t : Bool) → (s.from == at.rev && not (nat_lt to s.to)) ≡ t → IfOk (if t then leads s.forward s.to at.doc else Ok at) (IsAt docs)
    go true is =
        let here = same_number s.from at.rev (first_true _ _ is) in
        led-at docs (fit_bad s.forward at.doc) s.forward s.to at.doc (ap (apply s.forward.edit) (e ∙ ap docs (sym here)) ∙ h.on)
    go false is = e

back-at : (docs : ℕ → Doc) (to : ℕ) (s : Step) (at : Place) → IsStepOf docs s → IsAt docs at → IfOk (one_back to s at) (IsAt docs)
back-at docs to s at h e = go (s.to == at.rev && not (nat_lt s.from to)) refl
  where
    go : (t : Bool) → (s.to == at.rev && not (nat_lt s.from to)) ≡ t → IfOk (if t then leads s.backward s.from at.doc else Ok at) (IsAt docs)
    go true is =
        let here = same_number s.to at.rev (first_true _ _ is) in
        led-at docs (fit_bad s.backward at.doc) s.backward s.from at.doc (ap (apply s.backward.edit) (e ∙ ap docs (sym here)) ∙ h.back)
    go false is = e

then-at : (docs : ℕ → Doc) (f : Place → Result Place ClientBad) (r : Result Place ClientBad) → IfOk r (IsAt docs) → ((at : Place) → IsAt docs at → IfOk (f at) (IsAt docs))
    → IfOk (and_then f r) (IsAt docs)
then-at docs f (Ok at) h g = g at h
then-at docs f (Err why) h g = tt

all_on-at : (docs : ℕ → Doc) (to : ℕ) (ss : List Step) (at : Place) → AreStepsOf docs ss → IsAt docs at → IfOk (all_on to ss at) (IsAt docs)
all_on-at docs to [] at h e = e
all_on-at docs to (s ∷ ss) at h e = then-at docs (all_on to ss) (one_on to s at) (on-at docs to s at h.0 e) (λ next d. all_on-at docs to ss next h.1 d)

all_back-at : (docs : ℕ → Doc) (to : ℕ) (ss : List Step) (at : Place) → AreStepsOf docs ss → IsAt docs at → IfOk (all_back to ss at) (IsAt docs)
all_back-at docs to [] at h e = e
all_back-at docs to (s ∷ ss) at h e = then-at docs (one_back to s) (all_back to ss at) (all_back-at docs to ss at h.1 e) (λ next d. back-at docs to s next h.0 d)

pub walked-at : (docs : ℕ → Doc) (to : ℕ) (ss : List Step) (at : Place) → AreStepsOf docs ss → IsAt docs at → IfOk (walked to ss at) (IsAt docs)
walked-at docs to ss at h e = go (nat_lt at.rev to)
  where
    go : (t : Bool) → IfOk (if t then all_on to ss at else all_back to ss at) (IsAt docs)
    go true = all_on-at docs to ss at h e
    go false = all_back-at docs to ss at h e
