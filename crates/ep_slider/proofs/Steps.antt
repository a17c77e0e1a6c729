-- Steps of a history.
use Rattle.std.proofs.Common.{◌≡◌, ℕ, zero, suc, ◌-◌, List, [], ◌∷◌, ◌++◌, length, min, take, drop, refl, sym, ap, ◌∙◌, subst, arith, append_assoc, append-nil}
use Rattle.std.proofs.lemmas.List.{take_min, drop_min}
use Rattle.ep_cs.specs.Doc.{Doc}
use Rattle.ep_cs.specs.Edit.{apply}
use Rattle.ep_cs.specs.Change.{Change}
use Rattle.ep_cs.proofs.Composed.{apply-compose}
use Rattle.ep_cs.specs.Fits.{Fits}
use Rattle.ep_cs.specs.Made.{AreMade, after_all}
use Rattle.ep_compose.specs.Composed.{composed}
use Rattle.ep_compose.proofs.Ends.{composed_fits}
use Rattle.ep_slider.specs.Slides.{at_once, undone, AreSlides}

-- the first two of some changes are composed
pub composed_first : (doc : Doc) (c d : Change) (ds : List Change) → AreMade doc (c ∷ (d ∷ ds)) → AreMade doc (composed c d doc ∷ ds)
composed_first doc c d ds made =
    (composed_fits c d (composed c d doc) doc made.0 made.1.0 refl, subst (λ after. AreMade after ds) (sym (apply-compose c.edit d.edit doc made.0.length)) made.1.1)

-- all of them are made at once
pub once_fits : (doc : Doc) (c : Change) (cs : List Change) → AreMade doc (c ∷ cs) → Fits (at_once doc c cs) doc
once_fits doc c [] made = made.0
once_fits doc c (d ∷ ds) made = once_fits doc (composed c d doc) ds (composed_first doc c d ds made)

pub once_ends : (doc : Doc) (c : Change) (cs : List Change) → AreMade doc (c ∷ cs) → apply (at_once doc c cs).edit doc ≡ after_all doc (c ∷ cs)
once_ends doc c [] made = refl
once_ends doc c (d ∷ ds) made =
    once_ends doc (composed c d doc) ds (composed_first doc c d ds made)
    ∙ ap (λ after. after_all after ds) (apply-compose c.edit d.edit doc made.0.length)

-- the change and the rest of those after it do what all of them do
abbrev pub IsAtOnce : Change → List Change → Change → List Change → Type 0
IsAtOnce first later now rest = (doc : Doc) → AreMade doc (first ∷ later) → AreMade doc (now ∷ rest) × (at_once doc now rest ≡ at_once doc first later)

pub sets_out : (first : Change) (later : List Change) → IsAtOnce first later first later
sets_out first later doc made = (made, refl)

pub one_more : (first : Change) (later : List Change) (now d next : Change) (rest : List Change) → IsAtOnce first later now (d ∷ rest)
    → ((doc : Doc) → Fits now doc → Fits d (apply now.edit doc) → next ≡ composed now d doc) → IsAtOnce first later next rest
one_more first later now d next rest way both doc made =
    let at = way doc made in
    let is : next ≡ composed now d doc = both doc at.0.0 at.0.1.0 in
    (subst (λ c. AreMade doc (c ∷ rest)) (sym is) (composed_first doc now d rest at.0), ap (λ c. at_once doc c rest) is ∙ at.1)

-- the first of some changes, and the others behind them
pub front_made : (doc : Doc) (cs : List Change) (k : ℕ) → AreMade doc cs → AreMade doc (take k cs)
front_made doc cs zero made = tt
front_made doc [] (suc k) made = tt
front_made doc (c ∷ cs) (suc k) made = (made.0, front_made (apply c.edit doc) cs k made.1)

pub rest_made : (doc : Doc) (c : Change) (cs : List Change) (k : ℕ) → AreMade doc (c ∷ cs) → AreMade (apply (at_once doc c (take k cs)).edit doc) (drop k cs)
rest_made doc c cs zero made = made.1
rest_made doc c [] (suc k) made = tt
rest_made doc c (d ∷ ds) (suc k) made = rest_made doc (composed c d doc) ds k (composed_first doc c d ds made)

-- the slides so far, whatever those of the rest are
abbrev pub IsSliding : ℕ → Doc → List Change → Doc → List Change → List Change → List Change → Type 0
IsSliding g doc revs now rest forward backward =
    AreMade now rest × ((fs bs : List Change) → AreSlides g now rest fs bs → AreSlides g doc revs (forward ++ fs) (backward ++ bs))

pub slides_more : (most : ℕ) (doc : Doc) (revs : List Change) (now : Doc) (c : Change) (cs forward backward : List Change) (f b : Change)
    → IsSliding (suc most) doc revs now (c ∷ cs) forward backward → f ≡ at_once now c (take most cs) → b ≡ undone f now
    → IsSliding (suc most) doc revs (apply f.edit now) (drop most cs) (forward ++ f ∷ []) (backward ++ b ∷ [])
slides_more most doc revs now c cs forward backward f b way is back =
    let same : suc most - 1 ≡ most = omega arith in (
      subst (λ x. AreMade (apply x.edit now) (drop most cs)) (sym is) (rest_made now c cs most way.0),
      λ fs bs slides. subst (λ bs'. AreSlides (suc most) doc revs ((forward ++ f ∷ []) ++ fs) bs') (sym (append_assoc backward (b ∷ []) bs))
          (subst (λ fs'. AreSlides (suc most) doc revs fs' (backward ++ b ∷ bs)) (sym (append_assoc forward (f ∷ []) fs))
          (way.1 (f ∷ fs) (b ∷ bs) (is ∙ ap (λ n. at_once now c (take n cs)) (sym same), back, subst (λ n. AreSlides (suc most) (apply f.edit now) (drop n cs) fs bs) (sym same) slides))),
    )

pub slides_on : (most : ℕ) (doc : Doc) (revs : List Change) (now after : Doc) (c : Change) (rest later front left forward backward forward' backward' : List Change) (f b : Change)
    → IsSliding (suc most) doc revs now rest forward backward → rest ≡ c ∷ later → front ≡ take (min most (length later)) later → left ≡ drop (min most (length later)) later
    → f ≡ at_once now c front → b ≡ undone f now → after ≡ apply f.edit now → forward' ≡ forward ++ f ∷ [] → backward' ≡ backward ++ b ∷ []
    → IsSliding (suc most) doc revs after left forward' backward'
slides_on most doc revs now after c rest later front left forward backward forward' backward' f b way is front_is left_is f_is b_is after_is forward_is backward_is =
    let here : IsSliding (suc most) doc revs now (c ∷ later) forward backward = subst (λ r. IsSliding (suc most) doc revs now r forward backward) is way in
    let more = slides_more most doc revs now c later forward backward f b here (f_is ∙ ap (at_once now c) (front_is ∙ take_min most later)) b_is in
    subst (λ a. IsSliding (suc most) doc revs a left forward' backward') (sym after_is)
    (subst (λ l. IsSliding (suc most) doc revs (apply f.edit now) l forward' backward') (sym (left_is ∙ drop_min most later))
    (subst (λ fs. IsSliding (suc most) doc revs (apply f.edit now) (drop most later) fs backward') (sym forward_is)
    (subst (λ bs. IsSliding (suc most) doc revs (apply f.edit now) (drop most later) (forward ++ f ∷ []) bs) (sym backward_is) more)))

pub slides_end : (g : ℕ) (doc : Doc) (revs : List Change) (now : Doc) (forward backward : List Change) → IsSliding g doc revs now [] forward backward → AreSlides g doc revs forward backward
slides_end g doc revs now forward backward way =
    subst (λ bs. AreSlides g doc revs forward bs) (append-nil backward) (subst (λ fs. AreSlides g doc revs fs (backward ++ [])) (append-nil forward) (way.1 [] [] tt))

-- as many as are there, of so many
taken : (n : ℕ) (later front : List Change) → front ≡ take (min n (length later)) later → front ≡ take n later
taken n later front e = e ∙ take_min n later

pub first_made : (most : ℕ) (now : Doc) (c : Change) (rest later front : List Change) → rest ≡ c ∷ later → front ≡ take (min most (length later)) later → AreMade now rest → AreMade now (c ∷ front)
first_made most now c rest later front is e made =
    subst (λ cs. AreMade now (c ∷ cs)) (sym (taken most later front e)) (front_made now (c ∷ later) (suc most) (subst (AreMade now) is made))
