-- Cells that are taken and moved piece by piece.
use Rattle.std.proofs.Common.{◌≡◌, ℕ, ◌+◌, ◌-◌, ◌<◌, ◌≤◌, List, [], ◌∷◌, ◌++◌, length, take, drop, refl, sym, ap, ap₂, ◌∙◌, arith, append_assoc, append-nil, length-drop, drop-drop}
use Rattle.std.proofs.lemmas.List.{length-map}
use Rattle.std.proofs.Math.Seq.{take-add}
use Rattle.ep_units.specs.Text.{Text}
use Rattle.ep_attr.specs.AttrMap.{AttrMap}
use Rattle.ep_cs.specs.Doc.{Cell}
use Rattle.ep_cs.specs.Runs.{cells}

-- ---- cells by their count

pub length_cells : (m : AttrMap) (us : Text) → length (cells m us) ≡ length us
length_cells m us = length-map us (λ u. record { unit = u; attrs = m })

pub taken_front : (n : ℕ) (all front rest : List Cell) → all ≡ front ++ rest → length front ≡ n → take n all ≡ front
taken_front n all front rest e l = ap₂ (λ (k : ℕ) (cs : List Cell). take k cs) (sym l) e ∙ go front
  where
    go : (front : List Cell) → take (length front) (front ++ rest) ≡ front
    go [] = refl
    go (c ∷ cs) = ap (λ ds. c ∷ ds) (go cs)

pub dropped_front : (n : ℕ) (all front rest : List Cell) → all ≡ front ++ rest → length front ≡ n → rest ≡ drop n all
dropped_front n all front rest e l = sym (go front) ∙ ap₂ (λ (k : ℕ) (cs : List Cell). drop k cs) l (sym e)
  where
    go : (front : List Cell) → drop (length front) (front ++ rest) ≡ rest
    go [] = refl
    go (c ∷ cs) = go cs

-- ---- a loop over pieces, of which so many units are left

pub next_rest : (units left n : ℕ) (all old rest : List Cell) → left ≤ units → n ≤ left → old ≡ drop (units - left) all → rest ≡ drop n old → rest ≡ drop (units - (left - n)) all
next_rest units left n all old rest h k is e =
    let c : n + (units - left) ≡ units - (left - n) = omega (arith, h, k) in
    let d : (units - left) + n ≡ units - (left - n) = omega (arith, h, k) in
    e ∙ ap (drop n) is ∙ drop-drop n (units - left) all ∙ ap (λ (j : ℕ). drop j all) d

pub next_taken : (units left n : ℕ) (all old : List Cell) → left ≤ units → n ≤ left → old ≡ drop (units - left) all → take (units - (left - n)) all ≡ take (units - left) all ++ take n old
next_taken units left n all old h k is =
    let c : units - (left - n) ≡ (units - left) + n = omega (arith, h, k) in
    ap (λ (j : ℕ). take j all) c ∙ take-add (units - left) n all ∙ ap (λ cs. take (units - left) all ++ take n cs) (sym is)

-- while some are left, the rest is not empty
pub not_over : (units left : ℕ) (all old : List Cell) → units ≤ length all → left ≤ units → 0 < left → old ≡ drop (units - left) all → old ≡ [] → ⊥
not_over units left all old h k l is e = omega (arith, h, k, l, ap length is, ap length e, length-drop (units - left) all)

-- enough are left
pub enough : (units left : ℕ) (all old : List Cell) → units ≤ length all → left ≤ units → old ≡ drop (units - left) all → left ≤ length old
enough units left all old h k is = omega (arith, h, k, ap length is, length-drop (units - left) all)

-- ---- loops over pieces

-- all but so many of these cells are moved
pub record AreMoved (units left : ℕ) (start all done rest : List Cell) : Type 0 where
  pub done_is : done ≡ start ++ take (units - left) all
  pub rest_is : rest ≡ drop (units - left) all
  pub within : left ≤ units

pub none_moved : (units : ℕ) (start all : List Cell) → AreMoved units units start all start all
none_moved units start all =
    let e : 0 ≡ units - units = omega arith in
    record { done_is = sym (append-nil start) ∙ ap (λ (n : ℕ). start ++ take n all) e; rest_is = ap (λ (n : ℕ). drop n all) e; within = omega arith }

pub more_moved : (units left n : ℕ) (start all done rest done' rest' : List Cell) → AreMoved units left start all done rest → n ≤ left → done' ≡ done ++ take n rest → rest' ≡ drop n rest → AreMoved units (left - n) start all done' rest'
more_moved units left n start all done rest done' rest' m h d r = record {
  done_is = d ∙ ap (λ cs. cs ++ take n rest) m.done_is ∙ append_assoc start (take (units - left) all) (take n rest) ∙ ap (λ cs. start ++ cs) (sym (next_taken units left n all rest m.within h m.rest_is));
  rest_is = next_rest units left n all rest rest' m.within h m.rest_is r;
  within = omega (arith, m.within);
}
