-- Where the pieces of an edit are documents, no half of a pair stands alone among the steps that it was made of.
use Rattle.std.proofs.Common.{◌≡◌, ℕ, zero, suc, ◌+◌, ◌-◌, Bool, true, false, true≢false, cond, not, ◌&&◌, ◌||◌, List, [], ◌∷◌, ◌++◌, Option, Some, None, refl, sym, ap, ◌∙◌, arith, append_assoc, append-nil}
use Rattle.std.proofs.lemmas.Bool.Decides.{nat_tests}
use Rattle.ep_units.specs.Text.{is_high, is_low, is_paired}
use Rattle.ep_attr.specs.AttrMap.{AttrMap, same_map}
use Rattle.ep_attr.proofs.SameMap.{both_true, first_true, second_true}
use Rattle.ep_cs.specs.Doc.{Cell, text_of, has_equal_halves, is_document}
use Rattle.ep_cs.specs.Edit.{Step, settle}
use Rattle.ep_cs.specs.Edit.Fate.{Drop, Keep}
use Rattle.ep_cs.specs.Edit.Step.{Insert, Pass}
use Rattle.ep_cs.specs.Runs.{rest_kept}
use Rattle.ep_cs.specs.Fits.{AreDocuments}
use Rattle.ep_csread.specs.Reading.{first_half}

-- each first half is followed by a second one with its map, and no other second half stands there; `half` is the map of a first half right before
abbrev are_paired : Option AttrMap → List Cell → Bool
are_paired None [] = true
are_paired (Some h) [] = false
are_paired None (c ∷ cs) = cond (is_high c.unit) (are_paired (Some c.attrs) cs) (not (is_low c.unit) && are_paired None cs)
are_paired (Some h) (c ∷ cs) = (is_low c.unit && same_map h c.attrs) && are_paired None cs

not_low : (u : ℕ) → is_high u ≡ true → is_low u ≡ false
not_low u h = grind (arith, nat_tests)

not_high : (u : ℕ) → is_low u ≡ true → is_high u ≡ false
not_high u h = grind (arith, nat_tests)

document_paired : (cs : List Cell) → is_paired false (text_of cs) ≡ true → has_equal_halves cs ≡ true → are_paired None cs ≡ true
document_paired [] p e = refl
document_paired (c ∷ []) p e = go (is_high c.unit) (is_low c.unit) p
  where
    go : (high low : Bool) → (not low && not high) ≡ true → cond high false (not low && true) ≡ true
    go true true p = p
    go true false p = p
    go false true p = p
    go false false p = refl
document_paired (c ∷ (d ∷ ds)) p e = go (λ q f. document_paired (d ∷ ds) q f) (λ q f. document_paired ds q f) (is_high c.unit) refl p e
  where
    tail : (ds : List Cell) → has_equal_halves (d ∷ ds) ≡ true → has_equal_halves ds ≡ true
    tail [] e = refl
    tail (x ∷ xs) e = second_true (not (is_high d.unit) || same_map d.attrs x.attrs) _ e

    go : (is_paired false (text_of (d ∷ ds)) ≡ true → has_equal_halves (d ∷ ds) ≡ true → are_paired None (d ∷ ds) ≡ true)
        → (is_paired false (text_of ds) ≡ true → has_equal_halves ds ≡ true → are_paired None ds ≡ true)
        → (b : Bool) → is_high c.unit ≡ b
        → (not (is_low c.unit) && is_paired b (text_of (d ∷ ds))) ≡ true
        → ((not b || same_map c.attrs d.attrs) && has_equal_halves (d ∷ ds)) ≡ true
        → cond b ((is_low d.unit && same_map c.attrs d.attrs) && are_paired None ds) (not (is_low c.unit) && are_paired None (d ∷ ds)) ≡ true
    go next after false h p e = both_true _ _ (first_true _ _ p) (next (second_true (not (is_low c.unit)) _ p) e)
    go next after true h p e =
        let q : (is_low d.unit && is_paired (is_high d.unit) (text_of ds)) ≡ true = second_true (not (is_low c.unit)) _ p in
        let low : is_low d.unit ≡ true = first_true _ _ q in
        let rest : is_paired false (text_of ds) ≡ true = ap (λ b. is_paired b (text_of ds)) (sym (not_high d.unit low)) ∙ second_true (is_low d.unit) _ q in
        both_true _ _ (both_true _ _ low (first_true _ _ e)) (after rest (tail ds (second_true (same_map c.attrs d.attrs) _ e)))

-- the cells that are inserted before the next place that is kept
abbrev waiting : List Step → List Cell
waiting [] = []
waiting (Insert c ∷ steps) = c ∷ waiting steps
waiting (Pass Drop ∷ steps) = waiting steps
waiting (Pass (Keep m) ∷ steps) = []

abbrev pieces_are : List Cell → List Step → Type 0
pieces_are w s = AreDocuments (settle w s).places (settle w s).last

piece_is : (w : List Cell) (s : List Step) → pieces_are w s → is_document (w ++ waiting s) ≡ true
piece_is w [] h = ap is_document (append-nil w) ∙ h
piece_is w (Insert c ∷ s) h = ap is_document (sym (append_assoc w (c ∷ []) (waiting s))) ∙ piece_is (w ++ c ∷ []) s h
piece_is w (Pass Drop ∷ s) h = piece_is w s h.1
piece_is w (Pass (Keep m) ∷ s) h = ap is_document (append-nil w) ∙ h.0

next_paired : (s : List Step) → pieces_are [] s → are_paired None (waiting s) ≡ true
next_paired s h = let d = piece_is [] s h in document_paired (waiting s) (first_true _ _ d) (second_true (is_paired false (text_of (waiting s))) _ d)

none_alone : (at : ℕ) (half : Option AttrMap) (w : List Cell) (s t : List Step) → waiting t ≡ [] → are_paired half (waiting (s ++ t)) ≡ true → pieces_are w (s ++ t) → first_half at half s ≡ None
none_alone at None w [] t z p h = refl
none_alone at (Some m) w [] t z p h = absurd (true≢false (sym (sym (ap (are_paired (Some m)) z) ∙ p)))
none_alone at None w (Insert c ∷ s) t z p h = go (λ q. none_alone (at + 1) (Some c.attrs) (w ++ c ∷ []) s t z q h) (λ q. none_alone (at + 1) None (w ++ c ∷ []) s t z q h) (is_high c.unit) (is_low c.unit) p
  where
    go : (are_paired (Some c.attrs) (waiting (s ++ t)) ≡ true → first_half (at + 1) (Some c.attrs) s ≡ None)
        → (are_paired None (waiting (s ++ t)) ≡ true → first_half (at + 1) None s ≡ None)
        → (high low : Bool) → cond high (are_paired (Some c.attrs) (waiting (s ++ t))) (not low && are_paired None (waiting (s ++ t))) ≡ true
        → cond high (first_half (at + 1) (Some c.attrs) s) (cond low (Some at) (first_half (at + 1) None s)) ≡ None
    go inside outside true low p = inside p
    go inside outside false true p = absurd (true≢false (sym p))
    go inside outside false false p = outside p
none_alone at (Some m) w (Insert c ∷ s) t z p h = go (is_low c.unit && same_map m c.attrs) (λ q. none_alone (at + 1) None (w ++ c ∷ []) s t z q h) p
  where
    go : (b : Bool) → (are_paired None (waiting (s ++ t)) ≡ true → first_half (at + 1) None s ≡ None) → (b && are_paired None (waiting (s ++ t))) ≡ true → cond b (first_half (at + 1) None s) (Some (at - 1)) ≡ None
    go true outside p = outside p
    go false outside p = absurd (true≢false (sym p))
none_alone at None w (Pass Drop ∷ s) t z p h = none_alone at None w s t z p h.1
none_alone at (Some m) w (Pass Drop ∷ s) t z p h = none_alone at (Some m) w s t z p h.1
none_alone at None w (Pass (Keep m) ∷ s) t z p h = none_alone at None [] s t z (next_paired (s ++ t) h.1) h.1
none_alone at (Some n) w (Pass (Keep m) ∷ s) t z p h = absurd (true≢false (sym p))

no_waiting : (k : ℕ) → waiting (rest_kept k) ≡ []
no_waiting zero = refl
no_waiting (suc k) = refl

-- no half stands alone among the steps of a change whose pieces are documents
pub halves_meet : (s : List Step) (k : ℕ) → pieces_are [] (s ++ rest_kept k) → first_half 0 None s ≡ None
halves_meet s k h = none_alone 0 None [] s (rest_kept k) (no_waiting k) (next_paired (s ++ rest_kept k) h) h
