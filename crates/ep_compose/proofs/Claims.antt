-- What is written and what is left stay true of a text.
use Rattle.std.proofs.Common.{◌≡◌, ℕ, ◌+◌, ◌≤◌, List, [], ◌∷◌, ◌++◌, length, take, drop, refl, sym, ap, ◌∙◌, subst, take-append-drop, drop-drop}
use Rattle.std.proofs.lemmas.List.{length-take-le}
use Rattle.ep_units.specs.Text.{Text}
use Rattle.ep_cs.specs.Edit.{Step}
use Rattle.ep_cs.specs.Steps.{passed as steps_passed}
use Rattle.ep_cs.specs.Change.{newlines}
use Rattle.ep_cs.specs.Draft.{Draft, keeping, dropping}
use Rattle.ep_cs.specs.NormalRuns.{IsLined}
use Rattle.ep_attr.specs.AttrMap.{AttrMap}
use Rattle.ep_cursor.specs.Left.{Left, steps_left}
use Rattle.ep_cursor.specs.Said.{AreSaid}
use Rattle.ep_cursor.specs.Made.{text_made}
use Rattle.ep_cursor.proofs.Made.{run-append}
use Rattle.ep_cursor.specs.TrueDraft.{IsTrueDraft}
use Rattle.ep_cursor.proofs.TrueDrafts.{GoesOn, true_keep, true_drop}
use Rattle.ep_compose.specs.Composing.{AreTrueOf}

-- what the first change makes, as what s makes and the rest
pub made_parts : (a a' : Left) (s : List Step) (f w : Text) → steps_left a ≡ s ++ steps_left a' → text_made s (take (steps_passed s) w) ≡ f
    → text_made (steps_left a) w ≡ f ++ text_made (steps_left a') (drop (steps_passed s) w)
made_parts a a' s f w e gives =
    ap (λ steps. text_made steps w) e ∙ run-append (λ u m. u) (λ c. c.unit) s (steps_left a') w ∙ ap (λ vs. vs ++ text_made (steps_left a') (drop (steps_passed s) w)) gives

-- s of the first change is taken, of which f is the text that it makes
pub true_arm : (out out' : Draft) (a b a' b' : Left) (us : Text) (s : List Step) (f : Text)
    → steps_left a ≡ s ++ steps_left a'
    → text_made s (take (steps_passed s) (drop (steps_passed out.steps) us)) ≡ f
    → steps_passed out'.steps ≡ steps_passed out.steps + steps_passed s
    → AreTrueOf out a b us
    → ((v : Text) → AreSaid b.ops b.bank (f ++ v) → IsTrueDraft out' us × (AreSaid a'.ops a'.bank (drop (steps_passed s) (drop (steps_passed out.steps) us)) × AreSaid b'.ops b'.bank v))
    → AreTrueOf out' a' b' us
true_arm out out' a b a' b' us s f e gives places t now =
    let w = drop (steps_passed out.steps) us in
    let later : drop (steps_passed s) w ≡ drop (steps_passed out'.steps) us = drop-drop (steps_passed s) (steps_passed out.steps) us ∙ ap (λ (j : ℕ). drop j us) (sym places) in
    let v = text_made (steps_left a') (drop (steps_passed s) w) in
    let here = now v (subst (AreSaid b.ops b.bank) (made_parts a a' s f w e gives) t.second) in
    record {
      written = here.0;
      first = subst (AreSaid a'.ops a'.bank) later here.1.0;
      second = subst (λ vs. AreSaid b'.ops b'.bank (text_made (steps_left a') vs)) later here.1.1;
    }

pub drop_front : (f v : Text) (k : ℕ) → k ≡ length f → drop k (f ++ v) ≡ v
drop_front f v k e = ap (λ (j : ℕ). drop j (f ++ v)) e ∙ go f
  where
    go : (f : Text) → drop (length f) (f ++ v) ≡ v
    go [] = refl
    go (u ∷ f) = go f

pub take_front : (f v : Text) (k : ℕ) → k ≡ length f → take k (f ++ v) ≡ f
take_front f v k e = ap (λ (j : ℕ). take j (f ++ v)) e ∙ go f
  where
    go : (f : Text) → take (length f) (f ++ v) ≡ f
    go [] = refl
    go (u ∷ f) = ap (λ us. u ∷ us) (go f)

-- ---- what is written

front : (out : Draft) (us : Text) (n l : ℕ) → 1 ≤ n → n ≤ length (drop (steps_passed out.steps) us) → IsLined l (newlines (take n (drop (steps_passed out.steps) us)))
    → GoesOn out us (take n (drop (steps_passed out.steps) us)) (drop n (drop (steps_passed out.steps) us)) n l
front out us n l some room lined = record { is = sym (take-append-drop n _); long = length-take-le n _ room; some = some; lined = lined }

pub kept_draft : (out : Draft) (us : Text) (n l : ℕ) (m : AttrMap) → IsTrueDraft out us → 1 ≤ n → n ≤ length (drop (steps_passed out.steps) us)
    → IsLined l (newlines (take n (drop (steps_passed out.steps) us))) → IsTrueDraft (keeping out n l m) us
kept_draft out us n l m t some room lined = true_keep out us _ _ n l m t (front out us n l some room lined)

pub dropped_draft : (out : Draft) (us : Text) (n l : ℕ) → IsTrueDraft out us → 1 ≤ n → n ≤ length (drop (steps_passed out.steps) us)
    → IsLined l (newlines (take n (drop (steps_passed out.steps) us))) → IsTrueDraft (dropping out n l) us
dropped_draft out us n l t some room lined = true_drop out us _ _ n l t (front out us n l some room lined)
