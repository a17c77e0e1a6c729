-- A name that is among those of a shelf.
use Rattle.std.proofs.Common.{◌≡◌, ℕ, Bool, true, false, List, [], ◌∷◌, ◌++◌, Option, Some, None, refl, sym, ap, ◌∙◌, true≢false}
use Rattle.std.proofs.lemmas.Slice.Eq.{bytes_eq-Decides}
use Rattle.std.specs.Prelude.{◌||◌, IsTrue, bytes_eq, option_map}
use Rattle.ep_units.specs.Text.{Text}
use Rattle.ep_outside.specs.Shelf.{AreTold, rises, with_name}
use Rattle.ep_verify.proofs.Naming.{names-stay}
use Rattle.ep_move.specs.Moving.{IsUnnamed, is_among}

-- names with this one among them
record Splits (names : List (List ℕ)) (id : Text) : Type 0 where
  before : List (List ℕ)
  others : List (List ℕ)
  whole : before ++ id ∷ others ≡ names

split : (names : List (List ℕ)) (id : Text) → is_among names id ≡ true → Splits names id
split [] id h = absurd (true≢false (sym h))
split (name ∷ names) id h = go (bytes_eq name id) refl (split names id) h
  where
    go : (b : Bool) → bytes_eq name id ≡ b → (is_among names id ≡ true → Splits names id) → (b || is_among names id) ≡ true → Splits (name ∷ names) id
    go true e later h = record { before = []; others = names; whole = ap (λ (n : List ℕ). n ∷ names) (sym ((bytes_eq-Decides name id).0 e)) }
    go false e later h = let s = later h in record { before = name ∷ s.before; others = s.others; whole = ap (λ (l : List (List ℕ)). name ∷ l) s.whole }

-- a name that is there already puts no other there
pub stays : (told : Option (List (List ℕ))) (found : List (List ℕ)) (id : Text) → AreTold told found → IsTrue (rises found) → is_among found id ≡ true
    → option_map (λ names. with_name names id) told ≡ told
stays told found id are up among = let s = split found id among in names-stay told found s.before s.others id are up s.whole

pub unnamed : (told : Option (List (List ℕ))) (found : List (List ℕ)) (id : Text) → AreTold told found → is_among found id ≡ false → IsUnnamed told id
unnamed None found id are not = tt
unnamed (Some names) found id are not = ap (λ (l : List (List ℕ)). is_among l id) (sym are) ∙ not
