-- Names rise where each is less than its neighbour.
use Rattle.std.proofs.Common.{◌≡◌, ℕ, zero, suc, ◌+◌, ◌-◌, ◌<◌, ◌≤◌, List, [], ◌∷◌, length, get_or, refl, sym, ap, ◌∙◌, ⊎_elim, arith}
use Rattle.std.specs.Prelude.{IsTrue}
use Rattle.std.specs.Ordering.{is_lt}
use Rattle.std.proofs.lemmas.Bool.{cases_lt}
use Rattle.ep_units.specs.Text.{text_cmp}
use Rattle.ep_outside.specs.Shelf.{rises}
use Rattle.ep_outside.proofs.Rising.{and_both}

-- each of the first so many names is less than the next of them
abbrev pub RisesTo : List (List ℕ) → ℕ → Type 0
RisesTo ns n = (k : ℕ) → suc k < n → IsTrue (is_lt (text_cmp (get_or ns k []) (get_or ns (suc k) [])))

pub rises_whole : (ns : List (List ℕ)) → RisesTo ns (length ns) → IsTrue (rises ns)
rises_whole [] h = refl
rises_whole (n ∷ []) h = refl
rises_whole (n ∷ m ∷ ns) h =
    and_both (is_lt (text_cmp n m)) (rises (m ∷ ns)) (h 0 (omega arith)) (rises_whole (m ∷ ns) (λ k below. h (suc k) (omega arith)))

-- a place that is there reads the same whatever stands for one that isn't
read_as : (ns : List (List ℕ)) (i : ℕ) (a : List ℕ) → i < length ns → a ≡ get_or ns i a → a ≡ get_or ns i []
read_as (n ∷ ns) zero a below e = e
read_as (n ∷ ns) (suc i) a below e = read_as ns i a (omega arith) e
read_as [] i a below e = absurd (omega arith)

pub rises_on : (ns : List (List ℕ)) (i : ℕ) (a b : List ℕ) → 1 ≤ i → i < length ns → a ≡ get_or ns (i - 1) a → b ≡ get_or ns i b
    → IsTrue (is_lt (text_cmp a b)) → RisesTo ns i → RisesTo ns (i + 1)
rises_on ns i a b from below first second less so_far k short = ⊎_elim (so_far k) last (cases_lt (suc k) i)
  where
    last : i ≤ suc k → IsTrue (is_lt (text_cmp (get_or ns k []) (get_or ns (suc k) [])))
    last past =
        let here : i ≡ suc k = omega arith in
        let before : i - 1 ≡ k = omega arith in
        let x : a ≡ get_or ns k [] = read_as ns (i - 1) a (omega arith) first ∙ ap (λ j. get_or ns j []) before in
        let y : b ≡ get_or ns (suc k) [] = read_as ns i b below second ∙ ap (λ j. get_or ns j []) here in
        rw (sym x, sym y) less
