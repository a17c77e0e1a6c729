-- The pieces of a text between commas, unit by unit.
use Rattle.std.proofs.Common.{◌≡◌, ℕ, ◌+◌, ◌<◌, Bool, true, false, List, [], ◌∷◌, ◌++◌, length, get_or, drop, refl, sym, ap, ◌∙◌, arith, append_assoc, append-nil, drop-cons, add-one}
use Rattle.std.specs.List.{slice_split, onto_first}
use Rattle.std.proofs.lemmas.Bool.Decides.{nat_tests}
use Rattle.std.proofs.lemmas.List.Splits.{slice_split-cons_yes, slice_split-cons_no}
use Rattle.ep_units.specs.Text.{Text}
use Rattle.ep_wire_words.specs.Sessions.{is_comma}

-- the pieces, with units before the first
abbrev pub behind : Text → List Text → List Text
behind id [] = id ∷ []
behind id (p ∷ ps) = (id ++ p) ∷ ps

more_behind : (id : Text) (u : ℕ) (ps : List Text) → behind id (onto_first u ps) ≡ behind (id ++ u ∷ []) ps
more_behind id u [] = refl
more_behind id u (p ∷ ps) = ap (λ x. x ∷ ps) (sym (append_assoc id (u ∷ []) p))

nothing_at : (u : ℕ) (us : Text) (b : Bool) → is_comma u ≡ b → behind [] (slice_split is_comma (u ∷ us)) ≡ slice_split is_comma (u ∷ us)
nothing_at u us true e = rw (slice_split-cons_yes is_comma u us e)
nothing_at u us false e = rw (slice_split-cons_no is_comma u us e) (onto (slice_split is_comma us))
  where
    onto : (ps : List Text) → behind [] (onto_first u ps) ≡ onto_first u ps
    onto [] = refl
    onto (p ∷ ps) = refl

nothing_behind : (us : Text) → behind [] (slice_split is_comma us) ≡ slice_split is_comma us
nothing_behind [] = refl
nothing_behind (u ∷ us) = nothing_at u us (is_comma u) refl

pub begin : (us : Text) → [] ++ behind [] (slice_split is_comma (drop 0 us)) ≡ slice_split is_comma us
begin us = nothing_behind us

here : (text : Text) (i : ℕ) → i < length text → drop i text ≡ get_or text i 0 ∷ drop (i + 1) text
here text i within = rw add-one (drop-cons text i 0 within)

pub comma_passed : (text : Text) (i : ℕ) (ids jds : List Text) (id jd : Text) (all : List Text) → i < length text → get_or text i 0 ≡ 44 → jds ≡ ids ++ id ∷ [] → jd ≡ []
    → ids ++ behind id (slice_split is_comma (drop i text)) ≡ all → jds ++ behind jd (slice_split is_comma (drop (i + 1) text)) ≡ all
comma_passed text i ids jds id jd all within comma pushed emptied so_far =
    let rest = drop (i + 1) text in
    let test : is_comma (get_or text i 0) ≡ true = rw comma in
    let split : slice_split is_comma (drop i text) ≡ [] ∷ slice_split is_comma rest = ap (slice_split is_comma) (here text i within) ∙ slice_split-cons_yes is_comma (get_or text i 0) rest test in
    let more : behind id (slice_split is_comma (drop i text)) ≡ id ∷ slice_split is_comma rest = ap (behind id) split ∙ ap (λ x. x ∷ slice_split is_comma rest) (append-nil id) in
    rw (pushed, emptied) (ap (λ x. (ids ++ id ∷ []) ++ x) (nothing_behind rest) ∙ append_assoc ids (id ∷ []) (slice_split is_comma rest) ∙ ap (λ x. ids ++ x) (sym more) ∙ so_far)

other_unit : (u : ℕ) → (u ≡ 44 → ⊥) → is_comma u ≡ false
other_unit u other = grind (arith, nat_tests, other)

pub unit_passed : (text : Text) (i : ℕ) (ids jds : List Text) (id jd : Text) (all : List Text) → i < length text → (get_or text i 0 ≡ 44 → ⊥) → jds ≡ ids → jd ≡ id ++ get_or text i 0 ∷ []
    → ids ++ behind id (slice_split is_comma (drop i text)) ≡ all → jds ++ behind jd (slice_split is_comma (drop (i + 1) text)) ≡ all
unit_passed text i ids jds id jd all within other same pushed so_far =
    let rest = drop (i + 1) text in
    let u = get_or text i 0 in
    let split : slice_split is_comma (drop i text) ≡ onto_first u (slice_split is_comma rest) = ap (slice_split is_comma) (here text i within) ∙ slice_split-cons_no is_comma u rest (other_unit u other) in
    rw (same, pushed) (ap (λ x. ids ++ x) (sym (more_behind id u (slice_split is_comma rest)) ∙ ap (behind id) (sym split)) ∙ so_far)
