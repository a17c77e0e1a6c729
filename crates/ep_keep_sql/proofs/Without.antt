-- The rows without those of a key tell the map without the key.
use Rattle.std.proofs.Common.{◌≡◌, ◌∙◌, ◌⊎◌, inl, inr, ℕ, List, [], ◌∷◌, Bool, true, false, cond, is_some, refl, sym, ap, subst, Option, Some, None, true≢false}
use Rattle.std.specs.Prelude.{IsTrue, ◌&&◌}
use Rattle.std.proofs.lemmas.Bool.{cases_Bool}
use Rattle.std.specs.Ordering.{is_eq, is_lt, ordering_reverse}
use Rattle.std.specs.declared.cmp.Ordering.{Ordering}
use Rattle.std.specs.declared.cmp.Ordering.TheVariants.{Less, Equal, Greater}
use Rattle.std.specs.Cmp.Lexicographic.{nat_list_cmp_total}
use Rattle.sqlite.specs.Order.{Row, column}
use Rattle.ep_outside.proofs.Rising.{and_left, and_right, after_rises}
use Rattle.ep_outside.specs.declared.keeper.Pair.{Pair}
use Rattle.ep_outside.specs.Kept.{by_order, key_cmp, value_at, with, without, is_first, rises}
use Rattle.ep_keep_sql.specs.Told.{joined, pair_in, told_in}
use Rattle.ep_keep_sql.proofs.Get.{passes, passes_pair, told_more, eq_is, value_same, turned_other}
use Rattle.ep_keep_sql.proofs.With.{orders, same_for, turned_equal}

-- the rows that the key's test leaves
abbrev pub rows_but : List ℕ → List Row → List Row
rows_but key [] = []
rows_but key (r ∷ rs) = cond (passes key r) (rows_but key rs) (r ∷ rows_but key rs)

turned_greater : (a b : List ℕ) → key_cmp a b ≡ Greater → key_cmp b a ≡ Less
turned_greater a b e = nat_list_cmp_total.antisymm b a ∙ ap ordering_reverse e

pub is_less : (o : Ordering) → IsTrue (is_lt o) → o ≡ Less
is_less Less h = refl
is_less Equal h = absurd (true≢false (sym h))
is_less Greater h = absurd (true≢false (sym h))

-- where nothing stands, nothing goes
without_none : (m : List Pair) (k : List ℕ) → value_at m k ≡ None → without m k ≡ m
without_none [] k e = refl
without_none (p ∷ ps) k e =
    elim (orders (key_cmp k p.key)) [
      | inl l ↦ rw l refl
      | inr (inl q) ↦ let bad : Some p.value ≡ None = rw q at e in absurd (cc)
      | inr (inr g) ↦ let rest : value_at ps k ≡ None = rw g at e in rw g (ap (λ x. p ∷ x) (without_none ps k rest))
    ]

-- what was put new goes again
without_with : (m : List Pair) (k n v : List ℕ) → key_cmp k n ≡ Equal → value_at m n ≡ None → without (with m n v) k ≡ m
without_with [] k n v e f = rw e refl
without_with (p ∷ ps) k n v e f =
    elim (orders (key_cmp n p.key)) [
      | inl l ↦ rw (l, e) refl
      | inr (inl q) ↦ let bad : Some p.value ≡ None = rw q at f in absurd (cc)
      | inr (inr g) ↦
          let rest : value_at ps n ≡ None = rw g at f in
          let later : key_cmp k p.key ≡ Greater = nat_list_cmp_total.congr k n p.key e ∙ g in
          rw (g, later) (ap (λ x. p ∷ x) (without_with ps k n v e rest))
    ]

-- a key before the first one goes in front
with_first : (ps : List Pair) (n v q : List ℕ) → key_cmp n q ≡ Less → IsTrue (is_first q ps) → with ps n v ≡ record { key = n; value = v } ∷ ps
with_first [] n v q l h = refl
with_first (p ∷ ps) n v q l h = let less : key_cmp n p.key ≡ Less = nat_list_cmp_total.trans n q p.key l (is_less (key_cmp q p.key) h) in rw less refl

none_first : (ps : List Pair) (n q : List ℕ) → key_cmp n q ≡ Less → IsTrue (is_first q ps) → value_at ps n ≡ None
none_first [] n q l h = refl
none_first (p ∷ ps) n q l h = let less : key_cmp n p.key ≡ Less = nat_list_cmp_total.trans n q p.key l (is_less (key_cmp q p.key) h) in rw less refl

still_none : (m : List Pair) (k n : List ℕ) → IsTrue (rises m) → value_at m n ≡ None → value_at (without m k) n ≡ None
still_none [] k n h e = refl
still_none (p ∷ ps) k n h e =
    elim (orders (key_cmp k p.key)) [
      | inl l ↦ rw l e
      | inr (inl q) ↦ rw q (elim (orders (key_cmp n p.key)) [
        | inl nl ↦ none_first ps n p.key nl (and_left (is_first p.key ps) (rises ps) h)
        | inr (inl nq) ↦ let bad : Some p.value ≡ None = rw nq at e in absurd (cc)
        | inr (inr ng) ↦ let rest : value_at ps n ≡ None = rw ng at e in rest
      ])
      | inr (inr g) ↦ rw g (elim (orders (key_cmp n p.key)) [
        | inl nl ↦ rw nl refl
        | inr (inl nq) ↦ let bad : Some p.value ≡ None = rw nq at e in absurd (cc)
        | inr (inr ng) ↦ let rest : value_at ps n ≡ None = rw ng at e in rw ng (still_none ps k n (and_right (is_first p.key ps) (rises ps) h) rest)
      ])
    ]

-- one key is put and another one goes, in either order
without_other : (m : List Pair) (k n v : List ℕ) → is_eq (key_cmp k n) ≡ false → IsTrue (rises m) → without (with m n v) k ≡ with (without m k) n v
without_other [] k n v other h =
    elim (orders (key_cmp k n)) [
      | inl l ↦ rw l refl
      | inr (inl q) ↦ let bad : true ≡ false = ap is_eq (sym q) ∙ other in absurd (true≢false bad)
      | inr (inr g) ↦ rw g refl
    ]
without_other (p ∷ ps) k n v other h =
    elim (orders (key_cmp n p.key)) [
      | inl nl ↦ elim (orders (key_cmp k n)) [
        | inl kn ↦ let kl : key_cmp k p.key ≡ Less = nat_list_cmp_total.trans k n p.key kn nl in rw (nl, kn, kl) (rw nl refl)
        | inr (inl q) ↦ let bad : true ≡ false = ap is_eq (sym q) ∙ other in absurd (true≢false bad)
        | inr (inr g) ↦ elim (orders (key_cmp k p.key)) [
          | inl kl ↦ rw (nl, g, kl) (rw nl refl)
          | inr (inl kq) ↦ rw (nl, g, kq) (sym (with_first ps n v p.key nl (and_left (is_first p.key ps) (rises ps) h)))
          | inr (inr kg) ↦ rw (nl, g, kg) (rw nl refl)
        ]
      ]
      | inr (inl nq) ↦
          let e : key_cmp k p.key ≡ key_cmp k n = sym (same_for k n p.key nq) in
          elim (orders (key_cmp k n)) [
            | inl kn ↦ let kl : key_cmp k p.key ≡ Less = e ∙ kn in rw (nq, kn, kl) (rw nq refl)
            | inr (inl q) ↦ let bad : true ≡ false = ap is_eq (sym q) ∙ other in absurd (true≢false bad)
            | inr (inr g) ↦ let kg : key_cmp k p.key ≡ Greater = e ∙ g in rw (nq, g, kg) (rw nq refl)
          ]
      | inr (inr ng) ↦ elim (orders (key_cmp k p.key)) [
        | inl kl ↦ rw (ng, kl) (rw ng refl)
        | inr (inl kq) ↦ rw (ng, kq) refl
        | inr (inr kg) ↦ rw (ng, kg) (rw ng (ap (λ x. p ∷ x) (without_other ps k n v other (and_right (is_first p.key ps) (rises ps) h))))
      ]
    ]

with_rises : (m : List Pair) (n v : List ℕ) → IsTrue (rises m) → IsTrue (rises (with m n v))
with_rises m n v h = after_rises m (record { key = n; value = Some v } ∷ []) h

-- what rows tell rises
pub told_rises : (rows : List Row) (m : List Pair) → told_in rows ≡ Some m → IsTrue (rises m)
told_rises [] m e = let is : [] ≡ m = cc in subst (λ x. IsTrue (rises x)) is refl
told_rises (r ∷ rs) m e =
    let t = told_more r rs m e in
    subst (λ x. IsTrue (rises x)) (sym t.whole) (with_rises t.rest t.pair.key t.pair.value (told_rises rs t.rest t.told))

pub told_without : (rows : List Row) (m : List Pair) (key : List ℕ) → told_in rows ≡ Some m → told_in (rows_but key rows) ≡ Some (without m key)
told_without [] m key e = let is : [] ≡ m = cc in ap (λ x. Some (without x key)) is
told_without (r ∷ rs) m key e =
    let t = told_more r rs m e in
    let n = t.pair.key in
    let v = t.pair.value in
    let ih = told_without rs t.rest key t.told in
    let rising = told_rises rs t.rest t.told in
    let test = passes_pair key r t.pair t.is in
    elim (cases_Bool (passes key r)) [
      | inl yes_it ↦
          let same : key_cmp n key ≡ Equal = eq_is (key_cmp n key) (sym test ∙ yes_it) in
          let turned : key_cmp key n ≡ Equal = turned_equal n key same in
          let none : value_at t.rest key ≡ None = value_same t.rest key n turned ∙ t.fresh in
          let gone : without m key ≡ t.rest = ap (λ x. without x key) t.whole ∙ without_with t.rest key n v turned t.fresh in
          rw yes_it (ih ∙ ap Some (without_none t.rest key none ∙ sym gone))
      | inr not_it ↦
          let other : is_eq (key_cmp key n) ≡ false = turned_other key n (sym test ∙ not_it) in
          let fresh : value_at (without t.rest key) n ≡ None = still_none t.rest key n rising t.fresh in
          let swapped : without m key ≡ with (without t.rest key) n v = ap (λ x. without x key) t.whole ∙ without_other t.rest key n v other rising in
          rw not_it (ap (λ x. joined (pair_in r) x) ih ∙ (ap (λ x. joined x (Some (without t.rest key))) t.pair_is ∙ (ap (λ o. cond (is_some o) None (Some (with (without t.rest key) n v))) fresh ∙ ap Some (sym swapped))))
    ]
