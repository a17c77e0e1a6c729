-- Where the steps are those of a history, what the timeslider shows is that history.
use Rattle.std.specs.Prelude.{IfOk}
use Rattle.std.proofs.Common.{◌≡◌, ℕ, ◌==◌, nat_lt, Bool, true, false, ◌||◌, if◌then◌else◌, List, Option, Some, None, Result, Ok, Err, refl, sym, ap, ◌∙◌}
use Rattle.ep_cs.specs.Doc.{Doc}
use Rattle.ep_client.specs.declared.bad.ClientBad.{ClientBad}
use Rattle.ep_hearing.specs.declared.meaning.Slid.{Slid}
use Rattle.ep_timeslider.specs.Steps.{AreStepsOf, IsSliderOf, answers, asking, question, steps_of, walked}
use Rattle.ep_timeslider.specs.declared.slider.Asked.{Asked}
use Rattle.ep_timeslider.specs.declared.slider.Place.{Place}
use Rattle.ep_timeslider.specs.declared.slider.Step.{Step}
use Rattle.ep_timeslider.proofs.Walk.{IsAt, same_number, walked-at}
use Rattle.ep_editor.specs.Past.{hears_slid, slides, slides_by, slid_by, slid_for, slid_to, stands}
use Rattle.ep_editor.specs.Replies.{Reply, Past, Refuses, Sends, refuses}
use Rattle.ep_editor.specs.declared.bad.EditorBad.{EditorBad}
use Rattle.ep_editor.specs.declared.bad.EditorBad.TheVariants as bad
use Rattle.ep_editor.specs.declared.entered.Entered.{Entered}

-- ---- it stays in the history

abbrev Stays : (ℕ → Doc) → Reply × Entered → Type 0
Stays docs out = IsSliderOf docs out.1.slider

stays_if : (docs : ℕ → Doc) (t : Bool) (a b : Reply × Entered) → Stays docs a → Stays docs b → Stays docs (if t then a else b)
stays_if docs true a b f g = f
stays_if docs false a b f g = g

stays-stands : (docs : ℕ → Doc) (at : Place) (ss : List Step) (to : ℕ) (p : Entered) → IsAt docs at → AreStepsOf docs ss → Stays docs (stands at ss to p)
stays-stands docs at ss to p e h = stays_if docs (at.rev == to) _ _ (record { place = e; steps = h }) (record { place = e; steps = h })

stays-slides_by : (docs : ℕ → Doc) (r : Result Place ClientBad) (to : ℕ) (p : Entered) → IsSliderOf docs p.slider → IfOk r (IsAt docs) → Stays docs (slides_by r to p)
stays-slides_by docs (Ok at) to p i e = stays_if docs (at.rev == to || p.client.client.connected) _ _ (stays-stands docs at p.slider.steps to p e i.steps) i
stays-slides_by docs (Err why) to p i e = i

pub stays-slides : (docs : ℕ → Doc) (to : ℕ) (p : Entered) → IsSliderOf docs p.slider → IsSliderOf docs (slides to p).1.slider
stays-slides docs to p i =
    stays_if docs (nat_lt p.client.client.rev to) _ _ i
    (stays-slides_by docs (walked to p.slider.steps p.slider.place) to p i (walked-at docs to p.slider.steps p.slider.place i.steps i.place))

stays-slid_by : (docs : ℕ → Doc) (r : Result Place ClientBad) (ss : List Step) (to : ℕ) (p : Entered) → IsSliderOf docs p.slider → AreStepsOf docs ss → IfOk r (IsAt docs) → Stays docs (slid_by r ss to p)
stays-slid_by docs (Ok at) ss to p i h e = stays_if docs (at.rev == p.slider.place.rev) _ _ i (stays-stands docs at ss to p e h)
stays-slid_by docs (Err why) ss to p i h e = i

stays-slid_for : (docs : ℕ → Doc) (s : Slid) (o : Option Asked) (p : Entered) → IsSliderOf docs p.slider → AreStepsOf docs (steps_of s) → Stays docs (slid_for s o p)
stays-slid_for docs s None p i h = i
stays-slid_for docs s (Some q) p i h =
    stays_if docs (answers s q) _ _
    (stays-slid_by docs (walked q.to (steps_of s) p.slider.place) (steps_of s) q.to p i h (walked-at docs q.to (steps_of s) p.slider.place h i.place)) i

pub stays-slid : (docs : ℕ → Doc) (s : Slid) (p : Entered) → IsSliderOf docs p.slider → AreStepsOf docs (steps_of s) → IsSliderOf docs (hears_slid s p).1.slider
stays-slid docs s p i h = stays-slid_for docs s p.slider.asked p i h

-- ---- what it shows is the history's

not_refused : (why : EditorBad) (doc : Doc) → Refuses why ≡ Past doc → ⊥
not_refused why doc e = cc

not_sent : (at to : ℕ) (doc : Doc) → Sends (asking (question at to)) ≡ Past doc → ⊥
not_sent at to doc e = cc

same_doc : (a b : Doc) → Past a ≡ Past b → b ≡ a
same_doc a b e = cc

abbrev Tells : (ℕ → Doc) → ℕ → Reply × Entered → Type 0
Tells docs to out = (doc : Doc) → out.0 ≡ Past doc → doc ≡ docs to

tells-stands : (docs : ℕ → Doc) (at : Place) (ss : List Step) (to : ℕ) (p : Entered) → IsAt docs at → Tells docs to (stands at ss to p)
tells-stands docs at ss to p e = go (at.rev == to) refl
  where
    go : (t : Bool) → (at.rev == to) ≡ t
        → Tells docs to (if t then (Past at.doc, record p { slider = record { place = at; steps = ss; asked = None } }) else (Sends (asking (question at.rev to)), record p { slider = record { place = at; steps = ss; asked = Some (question at.rev to) } }))
    go true is doc h = same_doc at.doc doc h ∙ e ∙ ap docs (same_number at.rev to is)
    go false is doc h = absurd (not_sent at.rev to doc h)

tells-slides_by : (docs : ℕ → Doc) (r : Result Place ClientBad) (to : ℕ) (p : Entered) → IfOk r (IsAt docs) → Tells docs to (slides_by r to p)
tells-slides_by docs (Ok at) to p e = go (at.rev == to || p.client.client.connected)
  where
    go : (t : Bool) → Tells docs to (if t then stands at p.slider.steps to p else refuses bad.Turn p)
    go true = tells-stands docs at p.slider.steps to p e
    go false = λ doc h. absurd (not_refused bad.Turn doc h)
tells-slides_by docs (Err why) to p e = λ doc h. absurd (not_refused _ doc h)

pub tells-slides : (docs : ℕ → Doc) (to : ℕ) (p : Entered) (doc : Doc) → IsSliderOf docs p.slider → (slides to p).0 ≡ Past doc → doc ≡ docs to
tells-slides docs to p doc i h = go (nat_lt p.client.client.rev to) doc h
  where
    go : (t : Bool) → Tells docs to (if t then refuses bad.Place p else slides_by (walked to p.slider.steps p.slider.place) to p)
    go true = λ doc h. absurd (not_refused bad.Place doc h)
    go false = tells-slides_by docs (walked to p.slider.steps p.slider.place) to p (walked-at docs to p.slider.steps p.slider.place i.steps i.place)

tells-slid_by : (docs : ℕ → Doc) (r : Result Place ClientBad) (ss : List Step) (to : ℕ) (p : Entered) → IfOk r (IsAt docs) → Tells docs to (slid_by r ss to p)
tells-slid_by docs (Ok at) ss to p e = go (at.rev == p.slider.place.rev)
  where
    go : (t : Bool) → Tells docs to (if t then refuses bad.Turn p else stands at ss to p)
    go true = λ doc h. absurd (not_refused bad.Turn doc h)
    go false = tells-stands docs at ss to p e
tells-slid_by docs (Err why) ss to p e = λ doc h. absurd (not_refused _ doc h)

tells-slid_to : (docs : ℕ → Doc) (s : Slid) (q : Asked) (p : Entered) → IsSliderOf docs p.slider → AreStepsOf docs (steps_of s) → Tells docs q.to (slid_to s q p)
tells-slid_to docs s q p i h = go (answers s q)
  where
    go : (t : Bool) → Tells docs q.to (if t then slid_by (walked q.to (steps_of s) p.slider.place) (steps_of s) q.to p else refuses bad.Turn p)
    go true = tells-slid_by docs (walked q.to (steps_of s) p.slider.place) (steps_of s) q.to p (walked-at docs q.to (steps_of s) p.slider.place h i.place)
    go false = λ doc h. absurd (not_refused bad.Turn doc h)

pub tells-slid : (docs : ℕ → Doc) (s : Slid) (q : Asked) (p : Entered) (doc : Doc) → IsSliderOf docs p.slider → AreStepsOf docs (steps_of s) → p.slider.asked ≡ Some q → (hears_slid s p).0 ≡ Past doc
    → doc ≡ docs q.to
tells-slid docs s q p doc i h a e = tells-slid_to docs s q p i h doc (ap (λ o. (slid_for s o p).0) (sym a) ∙ e)
