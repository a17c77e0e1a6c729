-- A piece is composed: the composition goes on, and means the same.
use Rattle.std.proofs.Common.{◌≡◌, ℕ, ◌+◌, ◌≤◌, List, ◌++◌, length, take, drop, sym, ap, ◌∙◌, arith, append_assoc, take-take, drop-drop, length-drop, length-append}
use Rattle.std.proofs.lemmas.List.{drop-take}
use Rattle.ep_units.specs.Text.{Text}
use Rattle.ep_cs.specs.Edit.{Step, Item, painted_item}
use Rattle.ep_cs.specs.Edit.Item.{New}
use Rattle.ep_cs.specs.Steps.{passed, run}
use Rattle.ep_cs.specs.Draft.{Draft}
use Rattle.ep_cursor.specs.Left.{Left, steps_left}
use Rattle.ep_cursor.specs.Made.{given}
use Rattle.ep_cursor.proofs.Made.{run-append, passed-append, given-append}
use Rattle.ep_compose.specs.Composing.{whole, AreTrueOf, CanGo, Advances}
use Rattle.ep_compose.proofs.Arms.{IsArm}

same_whole : (o n s t a b : List Step) (xs : List Item) → IsArm s t n → passed s ≤ length (drop (passed o) xs) → whole (o ++ n) a b xs ≡ whole o (s ++ a) (t ++ b) xs
same_whole o n s t a b xs arm h =
    let p = passed o in
    let q = passed n in
    ap (λ (k : ℕ). run painted_item New (o ++ n) (take k xs) ++ run painted_item New b (run painted_item New a (drop k xs))) (passed-append o n)
    ∙ ap (λ ys. ys ++ run painted_item New b (run painted_item New a (drop (p + q) xs))) (run-append painted_item New o n (take (p + q) xs))
    ∙ append_assoc (run painted_item New o (take p (take (p + q) xs))) _ _
    ∙ ap (λ ys. run painted_item New o ys ++ (run painted_item New n (drop p (take (p + q) xs)) ++ run painted_item New b (run painted_item New a (drop (p + q) xs)))) (take-take p (p + q) xs (omega arith))
    ∙ ap (λ zs. run painted_item New o (take p xs) ++ zs)
    (ap (λ ys. run painted_item New n ys ++ run painted_item New b (run painted_item New a (drop (p + q) xs))) (drop-take p q xs)
    ∙ ap (λ ys. run painted_item New n (take q (drop p xs)) ++ run painted_item New b (run painted_item New a ys)) (sym (drop-drop q p xs))
    ∙ ap (λ (k : ℕ). run painted_item New n (take k (drop p xs)) ++ run painted_item New b (run painted_item New a (drop k (drop p xs)))) arm.places
    ∙ sym (arm.same a b (drop p xs) h))

-- s of the first change and t of the second are taken, and n is written
pub goes : (out out' : Draft) (a b a' b' : Left) (s t n : List Step) → IsArm s t n
    → steps_left a ≡ s ++ steps_left a' → steps_left b ≡ t ++ steps_left b'
    → out'.old ≡ out.old → out'.steps ≡ out.steps ++ n
    → CanGo out a b → 1 ≤ length s + length t
    → ((us : Text) → length us ≡ out.old → AreTrueOf out a b us → AreTrueOf out' a' b' us)
    → Advances out a b out' a' b'
goes out out' a b a' b' s t n arm ea eb old steps go some trues =
    let pa : passed (steps_left a) ≡ passed s + passed (steps_left a') = ap passed ea ∙ passed-append s (steps_left a') in
    let pb : passed (steps_left b) ≡ passed t + passed (steps_left b') = ap passed eb ∙ passed-append t (steps_left b') in
    let ga : given (steps_left a) ≡ given s + given (steps_left a') = ap given ea ∙ given-append s (steps_left a') in
    let gb : given (steps_left b) ≡ given t + given (steps_left b') = ap given eb ∙ given-append t (steps_left b') in
    let po : passed out'.steps ≡ passed out.steps + passed n = ap passed steps ∙ passed-append out.steps n in
    let gn : given out'.steps ≡ given out.steps + given n = ap given steps ∙ given-append out.steps n in
    let la : length (steps_left a) ≡ length s + length (steps_left a') = ap length ea ∙ length-append s (steps_left a') in
    let lb : length (steps_left b) ≡ length t + length (steps_left b') = ap length eb ∙ length-append t (steps_left b') in
    record {
      old = old;
      same = λ xs e.
          ap (λ o. whole o (steps_left a') (steps_left b') xs) steps
          ∙ same_whole out.steps n s t (steps_left a') (steps_left b') xs arm (omega (arith, length-drop (passed out.steps) xs, e, go.places, pa))
          ∙ (λ i. whole out.steps (sym ea i) (sym eb i) xs);
      places = omega (arith, po, pa, arm.places);
      fits = omega (arith, go.fits, ga, pb, arm.fits);
      made = omega (arith, gn, gb, arm.made);
      less = omega (arith, la, lb, some);
      trues = trues;
    }
