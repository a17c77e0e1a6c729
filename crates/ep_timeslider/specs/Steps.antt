-- The timeslider of an editor: the document of a revision, and how steps lead to others.
use Rattle.std.specs.Prelude.{◌≡◌, ◌⊎◌, ℕ, ◌+◌, ◌-◌, ◌*◌, ◌/◌, ◌==◌, ◌&&◌, min, nat_lt, Bool, not, if◌then◌else◌, List, [], ◌∷◌, length, Option, Some, None, Result, Ok, Err}
use Rattle.ep_cs.specs.Change.{Change}
use Rattle.ep_cs.specs.Doc.{Doc}
use Rattle.ep_cs.specs.Edit.{apply}
use Rattle.ep_cs.specs.Fitting.{fit_bad}
use Rattle.ep_cs.specs.declared.bad.FitBad.{FitBad}
use Rattle.ep_client.specs.declared.bad.ClientBad.{ClientBad}
use Rattle.ep_client.specs.declared.bad.ClientBad.TheVariants as client_bad
use Rattle.ep_hearing.specs.declared.meaning.Slid.{Slid}
use Rattle.ep_wire_words.specs.declared.client.ClientMsg.{ClientMsg}
use Rattle.ep_wire_words.specs.declared.client.ClientMsg.TheVariants as msgs
use Rattle.ep_timeslider.specs.declared.slider.Asked.{Asked}
use Rattle.ep_timeslider.specs.declared.slider.Place.{Place}
use Rattle.ep_timeslider.specs.declared.slider.Slider.{Slider}
use Rattle.ep_timeslider.specs.declared.slider.Step.{Step}

-- it stands at a revision, with nothing fetched
abbrev pub slider_at : ℕ → Doc → Slider
slider_at rev doc = record { place = record { rev = rev; doc = doc }; steps = []; asked = None }

-- ---- steps of the history

-- a change leads to a revision, if it fits
abbrev pub led : Option FitBad → Change → ℕ → Doc → Result Place ClientBad
led None c rev doc = Ok (record { rev = rev; doc = apply c.edit doc })
led (Some why) c rev doc = Err (client_bad.Fit why)

abbrev pub leads : Change → ℕ → Doc → Result Place ClientBad
leads c rev doc = led (fit_bad c doc) c rev doc

-- a step that begins here, and doesn't lead past where it is to come
abbrev pub one_on : ℕ → Step → Place → Result Place ClientBad
one_on to s at = if s.from == at.rev && not (nat_lt to s.to) then leads s.forward s.to at.doc else Ok at

-- and back, one that ends here
abbrev pub one_back : ℕ → Step → Place → Result Place ClientBad
one_back to s at = if s.to == at.rev && not (nat_lt s.from to) then leads s.backward s.from at.doc else Ok at

abbrev pub and_then : (Place → Result Place ClientBad) → Result Place ClientBad → Result Place ClientBad
and_then f (Ok at) = f at
and_then f (Err why) = Err why

-- all of them, the first one first; and back, the last one first
abbrev pub all_on : ℕ → List Step → Place → Result Place ClientBad
all_on to [] at = Ok at
all_on to (s ∷ ss) at = and_then (all_on to ss) (one_on to s at)

abbrev pub all_back : ℕ → List Step → Place → Result Place ClientBad
all_back to [] at = Ok at
all_back to (s ∷ ss) at = and_then (one_back to s) (all_back to ss at)

-- as near to a revision as they lead
abbrev pub walked : ℕ → List Step → Place → Result Place ClientBad
walked to ss at = if nat_lt at.rev to then all_on to ss at else all_back to ss at

-- ---- what is asked of the server

-- a step is of so many revisions that a hundred lead there, or of 100
abbrev pub granularity_of : ℕ → ℕ
granularity_of away = if nat_lt away 100 then 1 else min 100 (away / 100)

-- so far a hundred lead at most
abbrev pub reach_of : ℕ → ℕ
reach_of away = if nat_lt away 100 then away else 100 * granularity_of away

abbrev pub question : ℕ → ℕ → Asked
question at to =
    if nat_lt at to then record { start = at; granularity = granularity_of (to - at); to = to }
    else record { start = at - reach_of (at - to); granularity = granularity_of (at - to); to = to }

-- the revision to which it is to come numbers the request
abbrev pub asking : Asked → ClientMsg
asking q = msgs.Slide q.start q.granularity q.to

-- ---- what is answered

-- steps from a revision on, of which the last may be shorter
abbrev pub steps_from : ℕ → ℕ → ℕ → List Change → List Change → List Step
steps_from from reached g (f ∷ fs) (b ∷ bs) =
    let to = min (from + g) reached in (record { from = from; to = to; forward = f; backward = b }) ∷ steps_from to reached g fs bs
steps_from from reached g fs bs = []

abbrev pub steps_of : Slid → List Step
steps_of s = steps_from s.start s.reached s.granularity s.forward s.backward

-- the answer to what was asked last, of at most a hundred steps
abbrev pub answers : Slid → Asked → Bool
answers s q = (s.start == q.start && s.granularity == q.granularity) && (s.request == q.to && not (nat_lt 100 (length s.forward)))

-- ---- where it stands

-- a step leads between the documents of its revisions
pub record IsStepOf (docs : ℕ → Doc) (s : Step) : Type 0 where
  pub on : apply s.forward.edit (docs s.from) ≡ docs s.to
  pub back : apply s.backward.edit (docs s.to) ≡ docs s.from

abbrev pub AreStepsOf : (ℕ → Doc) → List Step → Type 0
AreStepsOf docs [] = Unit {0}
AreStepsOf docs (s ∷ ss) = IsStepOf docs s × AreStepsOf docs ss

-- it stands in this history, and so do its steps
pub record IsSliderOf (docs : ℕ → Doc) (s : Slider) : Type 0 where
  pub place : s.place.doc ≡ docs s.place.rev
  pub steps : AreStepsOf docs s.steps

-- ---- what a call answers

-- this came out, or memory ran out
abbrev pub IsOr : {A : Type 0} → Result A ClientBad → Result A ClientBad → Type 0
IsOr made wanted = (made ≡ Err client_bad.NoMemory) ⊎ (made ≡ wanted)
