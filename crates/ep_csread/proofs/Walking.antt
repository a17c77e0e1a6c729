-- The walk over the insertions.
use Rattle.std.proofs.Common.{◌≡◌, ℕ, zero, suc, ◌+◌, ◌-◌, ◌<◌, ◌≤◌, Bool, true, false, cond, not, ◌&&◌, eqb, List, [], ◌∷◌, length, get_or, drop, Option, Some, None, nat_lt, refl, sym, ap, ◌∙◌, arith, drop-drop}
use Rattle.std.proofs.lemmas.Bool.Decides.{nat_tests}
use Rattle.std.proofs.lemmas.List.{drop_more}
use Rattle.ep_units.specs.Text.{Text}
use Rattle.ep_attr.specs.AttrMap.{AttrMap}
use Rattle.ep_cs.specs.declared.op.Kind.{Kind}
use Rattle.ep_cs.specs.declared.op.Kind.TheVariants as kinds
use Rattle.ep_cs.specs.declared.op.Op.{Op}
use Rattle.ep_cs.specs.Runs.{inserted, all_inserted}
use Rattle.ep_csread.specs.Before.{map_at, map_before, cuts, cuts_by, place_after, place_by, first_cut, cut_at, is_before}
use Rattle.ep_units.specs.Halves.{begins_low}

pub map_at_is : (ops : List Op) (i : ℕ) (o : Op) → i < length ops → o ≡ get_or ops i o → map_at ops i ≡ Some o.attrs
map_at_is [] i o h e = absurd (omega arith)
map_at_is (p ∷ ops) zero o h e = ap (λ (q : Op). Some q.attrs) (sym e)
map_at_is (p ∷ ops) (suc i) o h e = map_at_is ops i o (omega arith) e

pub map_at_past : (ops : List Op) (i : ℕ) → length ops ≤ i → map_at ops i ≡ None
map_at_past [] i h = refl
map_at_past (p ∷ ops) zero h = absurd (omega arith)
map_at_past (p ∷ ops) (suc i) h = map_at_past ops i (omega arith)

pub cut_step : (ops : List Op) (bank : Text) (used i : ℕ) (before : Option ℕ) (o : Op) (all : Option ℕ) → i < length ops → o ≡ get_or ops i o
    → cuts (map_before ops before) o (drop used bank) ≡ false → first_cut used (map_before ops before) (drop i ops) (drop used bank) ≡ all
    → first_cut (used + inserted o.kind o.units) (map_before ops (place_after before i o)) (drop (i + 1) ops) (drop (used + inserted o.kind o.units) bank) ≡ all
cut_step ops bank used i before o all h e none so_far =
    go o.kind o.units none ∙ sym (ap (λ os. first_cut used (map_before ops before) os (drop used bank)) (drop_more ops i o h ∙ ap (λ p. p ∷ drop (i + 1) ops) (sym e))) ∙ so_far
  where
    go : (k : Kind) (n : ℕ) → cuts_by k n (map_before ops before) o.attrs (drop used bank) ≡ false
        → first_cut (used + inserted k n) (map_before ops (cond (eqb n 0) before (place_by k before i))) (drop (i + 1) ops) (drop (used + inserted k n) bank)
        ≡ cut_at used (map_before ops before) k n o.attrs (drop used bank) (first_cut (used + n) (Some o.attrs) (drop (i + 1) ops) (drop n (drop used bank))) (first_cut used None (drop (i + 1) ops) (drop used bank)) (first_cut used (map_before ops before) (drop (i + 1) ops) (drop used bank))
    go kinds.Insert zero c = ap (λ (u : ℕ). first_cut u (map_before ops before) (drop (i + 1) ops) (drop u bank)) (let z : used + 0 ≡ used = omega arith in z)
    go kinds.Keep zero c = ap (λ (u : ℕ). first_cut u (map_before ops before) (drop (i + 1) ops) (drop u bank)) (let z : used + 0 ≡ used = omega arith in z)
    go kinds.Keep (suc n) c =
        let t : eqb (suc n) 0 ≡ false = grind (arith, nat_tests) in
        let z : used + 0 ≡ used = omega arith in
        ap (λ (x : Bool). first_cut (used + 0) (map_before ops (cond x before None)) (drop (i + 1) ops) (drop (used + 0) bank)) t
        ∙ ap (λ (u : ℕ). first_cut u None (drop (i + 1) ops) (drop u bank)) z
    go kinds.Drop n c =
        let z : used + 0 ≡ used = omega arith in
        dropped (eqb n 0) ∙ ap (λ (u : ℕ). first_cut u (map_before ops before) (drop (i + 1) ops) (drop u bank)) z
      where
        dropped : (x : Bool) → first_cut (used + 0) (map_before ops (cond x before before)) (drop (i + 1) ops) (drop (used + 0) bank) ≡ first_cut (used + 0) (map_before ops before) (drop (i + 1) ops) (drop (used + 0) bank)
        dropped true = refl
        dropped false = refl
    go kinds.Insert (suc n) c =
        let t : eqb (suc n) 0 ≡ false = grind (arith, nat_tests) in
        let p : nat_lt 0 (suc n) ≡ true = grind (arith, nat_tests) in
        let cut : (begins_low (drop used bank) && not (is_before (map_before ops before) o.attrs)) ≡ false = sym (ap (λ x. x && (begins_low (drop used bank) && not (is_before (map_before ops before) o.attrs))) p) ∙ c in
        ap (λ (x : Bool). first_cut (used + suc n) (map_before ops (cond x before (Some i))) (drop (i + 1) ops) (drop (used + suc n) bank)) t
        ∙ ap (λ (m : Option AttrMap). first_cut (used + suc n) m (drop (i + 1) ops) (drop (used + suc n) bank)) (map_at_is ops i o h e)
        ∙ ap (λ (b : Text). first_cut (used + suc n) (Some o.attrs) (drop (i + 1) ops) b) (sym (drop-drop (suc n) used bank))
        ∙ sym (ap (λ x. cond x (Some (used - 1)) (first_cut (used + suc n) (Some o.attrs) (drop (i + 1) ops) (drop (suc n) (drop used bank)))) cut)

pub room_step : (ops : List Op) (used i : ℕ) (o : Op) (n : ℕ) → i < length ops → o ≡ get_or ops i o → used + all_inserted (drop i ops) ≤ n → used + inserted o.kind o.units + all_inserted (drop (i + 1) ops) ≤ n
room_step ops used i o n h e room =
    let s : all_inserted (drop i ops) ≡ inserted o.kind o.units + all_inserted (drop (i + 1) ops) = ap all_inserted (drop_more ops i o h ∙ ap (λ p. p ∷ drop (i + 1) ops) (sym e)) in
    omega (arith, s)
