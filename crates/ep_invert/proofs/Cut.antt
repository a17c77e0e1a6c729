-- Which pairs splices and paintings cut.
use Rattle.std.proofs.Common.{◌≡◌, ℕ, zero, suc, ◌+◌, ◌-◌, ◌≤◌, Bool, true, false, ◌⊎◌, inl, inr, List, [], ◌∷◌, ◌++◌, length, take, drop, take_all, Option, Some, None, if◌then◌else◌, refl, sym, ap, ◌∙◌, arith, append-nil, drop-drop, length-drop}
use Rattle.ep_units.specs.Text.{Text}
use Rattle.std.proofs.lemmas.List.{replicate-append-replicate}
use Rattle.ep_attr.specs.AttrMap.{AttrMap, Pair, none, same_map, same_pairs, is_none}
use Rattle.ep_attr.proofs.SameMap.{exact_map}
use Rattle.ep_cs.specs.Doc.{Cell}
use Rattle.ep_cs.specs.Edit.{Step, inserts, settle, identity}
use Rattle.ep_cs.specs.Edit.Fate.{Drop, Keep}
use Rattle.ep_cs.specs.Edit.Step.{Pass}
use Rattle.ep_cs.specs.Fits.{goes_on}
use Rattle.ep_cs.specs.Splice.{kept, dropped, splice}
use Rattle.ep_cs.proofs.Canonical.{times, settle-inserts}
use Rattle.ep_cs.proofs.Splices.{splice-nothing}
use Rattle.ep_cs.specs.Fitting.{first_cut}
use Rattle.ep_block_parts.specs.Seen.{ends_high}
use Rattle.ep_apply.proofs.Ends.{step_end, keeps_end, drops_end}
use Rattle.ep_invert.specs.Paint.{paint_steps, paint}
use Rattle.ep_invert.specs.Stretch.{end_cut}

-- a pair that ends with a stretch, behind which nothing goes on
abbrev else_at : ℕ → Bool → Option ℕ → Option ℕ
else_at at high later = if high then Some at else later

not_on : (at n : ℕ) (high on : Bool) (later : Option ℕ) → on ≡ false → step_end at n high on later ≡ else_at (at + n) high later
not_on at n true true later e = absurd cc
not_on at n true false later e = refl
not_on at n false on later e = refl

keeps_cut : (n at : ℕ) (m : AttrMap) (w : List Cell) (t : List Step) (us : Text) → suc n ≤ length us → goes_on (Keep m) (settle [] t).places ≡ false
    → first_cut at (settle w (times (suc n) (Keep m) ++ t)).places us ≡ else_at (at + suc n) (ends_high (take (suc n) us)) (first_cut (at + suc n) (settle [] t).places (drop (suc n) us))
keeps_cut n at m w t us h e = keeps_end n at m w t us h ∙ not_on at (suc n) (ends_high (take (suc n) us)) _ _ e

-- the last places
rest_cut : (r at : ℕ) (w : List Cell) (us : Text) → length us ≡ r → first_cut at (settle w (kept r)).places us ≡ else_at (at + r) (ends_high us) None
rest_cut zero at w [] h = refl
rest_cut zero at w (u ∷ us) h = absurd (omega (arith, h))
rest_cut (suc r) at w us h =
    ap (λ (s : List Step). first_cut at (settle w s).places us) (sym (append-nil (kept (suc r)))) ∙ keeps_cut r at none w [] us (omega (arith, h)) refl
    ∙ ap (λ (vs : Text). else_at (at + suc r) (ends_high vs) None) (take_all (suc r) us (omega (arith, h)))

-- what goes on behind the piece, or behind a stretch
no_drop : (r : ℕ) (w : List Cell) → goes_on Drop (settle w (kept r)).places ≡ false
no_drop zero w = refl
no_drop (suc r) [] = refl
no_drop (suc r) (c ∷ w) = refl

no_keep : (r : ℕ) (c : Cell) (w : List Cell) → goes_on (Keep none) (settle (c ∷ w) (kept r)).places ≡ false
no_keep zero c w = refl
no_keep (suc r) c w = refl

-- the places from the stretch on, which is dropped
dropped_cut : (n r at : ℕ) (piece : List Cell) (us : Text) → length us ≡ n + r
    → first_cut at (settle [] (dropped n ++ (inserts piece ++ kept r))).places us ≡ else_at (at + n) (ends_high (take n us)) (else_at (at + n + r) (ends_high (drop n us)) None)
dropped_cut zero r at piece us h =
    let e : at + 0 + r ≡ at + r = omega arith in
    let f : length us ≡ r = omega (arith, h) in
    ap (λ e. first_cut at e.places us) (settle-inserts [] piece (kept r)) ∙ rest_cut r at piece us f ∙ ap (λ (k : ℕ). else_at k (ends_high us) None) (sym e)
dropped_cut (suc n) r at piece us h =
    let f : length (drop (suc n) us) ≡ r = omega (arith, h, length-drop (suc n) us) in
    let piece_on = settle-inserts [] piece (kept r) in
    drops_end n at [] (inserts piece ++ kept r) us (omega (arith, h))
    ∙ not_on at (suc n) (ends_high (take (suc n) us)) _ _ (ap (λ e. goes_on Drop e.places) piece_on ∙ no_drop r piece)
    ∙ ap (else_at (at + suc n) (ends_high (take (suc n) us))) (ap (λ e. first_cut (at + suc n) e.places (drop (suc n) us)) piece_on ∙ rest_cut r (at + suc n) piece (drop (suc n) us) f)

first_dropped : (n r : ℕ) (piece : List Cell) → 1 ≤ n + length piece → goes_on (Keep none) (settle [] (dropped n ++ (inserts piece ++ kept r))).places ≡ false
first_dropped (suc n) r piece h = refl
first_dropped zero r [] h = absurd (omega (arith, h))
first_dropped zero r (c ∷ piece) h = ap (λ e. goes_on (Keep none) e.places) (settle-inserts (c ∷ []) piece (kept r)) ∙ no_keep r c piece

middle : (at end : ℕ) → at ≤ end → at + (end - at) ≡ end
middle at end h = omega arith

-- a splice that alters something, or is at the start, cuts the pairs at the stretch's ends
pub splice_cut : (us : Text) (at n : ℕ) (piece : List Cell) → at + n ≤ length us → (at ≡ 0) ⊎ (1 ≤ n + length piece)
    → first_cut 0 (splice (length us) at n piece).places us ≡ end_cut at (at + n) us
splice_cut us zero n piece h alters =
    let r = length us - (0 + n) in
    let e : 0 + n + r ≡ length us = omega arith in
    let f : length us ≡ n + r = omega arith in
    let z : 0 + n ≡ n = omega arith in
    let y : 0 + n - 0 ≡ n = omega arith in
    dropped_cut n r 0 piece us f
    ∙ (λ i. else_at (0 + n) (ends_high (take (sym y i) us)) (else_at (e i) (ends_high (drop (sym z i) us)) None))
splice_cut us (suc at) n piece h alters = elim alters as (λ _. first_cut 0 (splice (length us) (suc at) n piece).places us ≡ end_cut (suc at) (suc at + n) us)
    [ inl z ↦ absurd (omega (arith, z)) | inr some ↦ go some ]
  where
    go : 1 ≤ n + length piece → first_cut 0 (splice (length us) (suc at) n piece).places us ≡ end_cut (suc at) (suc at + n) us
    go some =
        let r = length us - (suc at + n) in
        let a : 0 + suc at ≡ suc at = omega arith in
        let e : suc at + n + r ≡ length us = omega arith in
        let f : length (drop (suc at) us) ≡ n + r = omega (arith, length-drop (suc at) us) in
        let y : suc at + n - suc at ≡ n = omega arith in
        let turned : drop n (drop (suc at) us) ≡ drop (suc at + n) us = drop-drop n (suc at) us in
        keeps_cut at 0 none [] (dropped n ++ (inserts piece ++ kept r)) us (omega (arith, h)) (first_dropped n r piece some)
        ∙ ap (λ (k : ℕ). else_at k (ends_high (take (suc at) us)) (first_cut k (settle [] (dropped n ++ (inserts piece ++ kept r))).places (drop (suc at) us))) a
        ∙ ap (else_at (suc at) (ends_high (take (suc at) us)))
        (dropped_cut n r (suc at) piece (drop (suc at) us) f
        ∙ (λ i. else_at (suc at + n) (ends_high (take (sym y i) (drop (suc at) us))) (else_at (e i) (ends_high (turned i)) None)))

-- the places from the stretch on, which is kept with a map
painted_cut : (n r at : ℕ) (m : AttrMap) (us : Text) → length us ≡ n + r → is_none m ≡ false
    → first_cut at (settle [] (paint_steps n m ++ kept r)).places us ≡ else_at (at + n) (ends_high (take n us)) (else_at (at + n + r) (ends_high (drop n us)) None)
painted_cut zero r at m us h e =
    let z : at + 0 + r ≡ at + r = omega arith in
    let f : length us ≡ r = omega (arith, h) in
    rest_cut r at [] us f ∙ ap (λ (k : ℕ). else_at k (ends_high us) None) (sym z)
painted_cut (suc n) r at m us h e =
    let f : length (drop (suc n) us) ≡ r = omega (arith, h, length-drop (suc n) us) in
    keeps_cut n at m [] (kept r) us (omega (arith, h)) (no_same r)
    ∙ ap (else_at (at + suc n) (ends_high (take (suc n) us))) (rest_cut r (at + suc n) [] (drop (suc n) us) f)
  where
    no_same : (r : ℕ) → goes_on (Keep m) (settle [] (kept r)).places ≡ false
    no_same zero = refl
    no_same (suc r) = e

first_painted : (n r : ℕ) (m : AttrMap) → 1 ≤ n → is_none m ≡ false → goes_on (Keep none) (settle [] (paint_steps n m ++ kept r)).places ≡ false
first_painted zero r m h e = absurd (omega (arith, h))
first_painted (suc n) r m h e = other m e
  where
    other : (m : AttrMap) → is_none m ≡ false → same_map none m ≡ false
    other m e = turned m.pairs e
      where
        turned : (ps : List Pair) → same_pairs ps [] ≡ false → same_pairs [] ps ≡ false
        turned [] e = e
        turned (p ∷ ps) e = refl

-- a painting that alters something cuts the pairs at the stretch's ends
pub paint_cut : (us : Text) (at n : ℕ) (m : AttrMap) → at + n ≤ length us → 1 ≤ n → is_none m ≡ false → first_cut 0 (paint (length us) at n m).places us ≡ end_cut at (at + n) us
paint_cut us zero n m h some e =
    let r = length us - (0 + n) in
    let all : 0 + n + r ≡ length us = omega arith in
    let f : length us ≡ n + r = omega arith in
    let z : 0 + n ≡ n = omega arith in
    let y : 0 + n - 0 ≡ n = omega arith in
    painted_cut n r 0 m us f e ∙ (λ i. else_at (0 + n) (ends_high (take (sym y i) us)) (else_at (all i) (ends_high (drop (sym z i) us)) None))
paint_cut us (suc at) n m h some e =
    let r = length us - (suc at + n) in
    let a : 0 + suc at ≡ suc at = omega arith in
    let all : suc at + n + r ≡ length us = omega arith in
    let f : length (drop (suc at) us) ≡ n + r = omega (arith, length-drop (suc at) us) in
    let y : suc at + n - suc at ≡ n = omega arith in
    let turned : drop n (drop (suc at) us) ≡ drop (suc at + n) us = drop-drop n (suc at) us in
    keeps_cut at 0 none [] (paint_steps n m ++ kept r) us (omega (arith, h)) (first_painted n r m some e)
    ∙ ap (λ (k : ℕ). else_at k (ends_high (take (suc at) us)) (first_cut k (settle [] (paint_steps n m ++ kept r)).places (drop (suc at) us))) a
    ∙ ap (else_at (suc at) (ends_high (take (suc at) us)))
    (painted_cut n r (suc at) m (drop (suc at) us) f e
    ∙ (λ i. else_at (suc at + n) (ends_high (take (sym y i) (drop (suc at) us))) (else_at (all i) (ends_high (turned i)) None)))

-- nothing is paint_steps
pub paint_nothing : (n at count : ℕ) (m : AttrMap) → at + count ≤ n → (count ≡ 0) ⊎ (is_none m ≡ true) → paint n at count m ≡ identity n
paint_nothing n at count m h why =
    let all : at + (count + (n - (at + count))) ≡ n = omega arith in
    let same : paint_steps count m ≡ kept count = elim why as (λ _. paint_steps count m ≡ kept count) [
      | inl z ↦ (λ i. paint_steps (z i) m) ∙ sym (ap kept z)
      | inr e ↦ ap (paint_steps count) (exact_map m none e)
    ] in
    ap (λ (s : List Step). settle [] (kept at ++ (s ++ kept (n - (at + count))))) same
    ∙ ap (settle []) (ap (λ (s : List Step). kept at ++ s) (replicate-append-replicate count (n - (at + count)) (Pass (Keep none))) ∙ replicate-append-replicate at (count + (n - (at + count))) (Pass (Keep none)))
    ∙ ap (λ (k : ℕ). settle [] (kept k)) all ∙ ap (settle []) (sym (ap (λ (k : ℕ). kept k) (let z : n - (0 + 0) ≡ n = omega arith in z))) ∙ splice-nothing n 0 (omega arith)
