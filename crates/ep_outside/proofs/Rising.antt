-- A map whose keys rise still rises after puts.
use Rattle.std.proofs.Common.{◌≡◌, ℕ, Bool, true, false, List, [], ◌∷◌, Option, Some, None, refl, sym, ◌∙◌, ap, true≢false}
use Rattle.std.specs.Prelude.{IsTrue, ◌&&◌}
use Rattle.std.specs.Ordering.{is_lt, ordering_reverse}
use Rattle.std.specs.declared.cmp.Ordering.{Ordering}
use Rattle.std.specs.declared.cmp.Ordering.TheVariants.{Less, Equal, Greater}
use Rattle.std.specs.Cmp.Lexicographic.{nat_list_cmp_total}
use Rattle.ep_outside.specs.declared.keeper.Pair.{Pair}
use Rattle.ep_outside.specs.declared.keeper.Put.{Put}
use Rattle.ep_outside.specs.Kept.{key_cmp, by_order, with, without, put_in, after, is_first, rises}

pub and_left : (a b : Bool) → IsTrue (a && b) → IsTrue a
and_left true b h = refl
and_left false b h = h

pub and_right : (a b : Bool) → IsTrue (a && b) → IsTrue b
and_right true b h = h
and_right false b h = absurd (true≢false (sym h))

pub and_both : (a b : Bool) → IsTrue a → IsTrue b → IsTrue (a && b)
and_both true b h k = k
and_both false b h k = h

less : (o : Ordering) → IsTrue (is_lt o) → o ≡ Less
less Less h = refl
less Equal h = absurd (true≢false (sym h))
less Greater h = absurd (true≢false (sym h))

turned : (a b : List ℕ) → key_cmp a b ≡ Greater → key_cmp b a ≡ Less
turned a b e = nat_list_cmp_total.antisymm b a ∙ ap ordering_reverse e

first_alike : (a b : List ℕ) (ps : List Pair) → key_cmp a b ≡ Equal → IsTrue (is_first b ps) → IsTrue (is_first a ps)
first_alike a b [] e h = refl
first_alike a b (p ∷ ps) e h = ap is_lt (nat_list_cmp_total.congr a b p.key e) ∙ h

first_later : (a b : List ℕ) (ps : List Pair) → key_cmp a b ≡ Less → IsTrue (is_first b ps) → IsTrue (is_first a ps)
first_later a b [] e h = refl
first_later a b (p ∷ ps) e h = ap is_lt (nat_list_cmp_total.trans a b p.key e (less (key_cmp b p.key) h))

first_with : (a : List ℕ) (ps : List Pair) (key value : List ℕ) → key_cmp a key ≡ Less → IsTrue (is_first a ps) → IsTrue (is_first a (with ps key value))
first_with a [] key value e h = ap is_lt e
first_with a (p ∷ ps) key value e h = by (key_cmp key p.key) where
  r : Pair
  r = record { key = key; value = value }

  by : (o : Ordering) → IsTrue (is_first a (by_order o (r ∷ p ∷ ps) (r ∷ ps) (p ∷ with ps key value)))
  by Less = ap is_lt e
  by Equal = ap is_lt e
  by Greater = h

first_without : (a : List ℕ) (ps : List Pair) (key : List ℕ) → IsTrue (is_first a ps) → IsTrue (rises ps) → IsTrue (is_first a (without ps key))
first_without a [] key h k = refl
first_without a (p ∷ ps) key h k = by (key_cmp key p.key) where
  by : (o : Ordering) → IsTrue (is_first a (by_order o (p ∷ ps) ps (p ∷ without ps key)))
  by Less = h
  by Equal = first_later a p.key ps (less (key_cmp a p.key) h) (and_left (is_first p.key ps) (rises ps) k)
  by Greater = h

with_rises : (m : List Pair) (key value : List ℕ) → IsTrue (rises m) → IsTrue (rises (with m key value))
with_rises [] key value h = refl
with_rises (p ∷ ps) key value h = by (key_cmp key p.key) refl (with_rises ps key value (and_right (is_first p.key ps) (rises ps) h)) where
  r : Pair
  r = record { key = key; value = value }

  first : IsTrue (is_first p.key ps)
  first = and_left (is_first p.key ps) (rises ps) h

  rest : IsTrue (rises ps)
  rest = and_right (is_first p.key ps) (rises ps) h

  by : (o : Ordering) → key_cmp key p.key ≡ o → IsTrue (rises (with ps key value)) → IsTrue (rises (by_order o (r ∷ p ∷ ps) (r ∷ ps) (p ∷ with ps key value)))
  by Less e more = and_both (is_lt (key_cmp key p.key)) (rises (p ∷ ps)) (ap is_lt e) h
  by Equal e more = and_both (is_first key ps) (rises ps) (first_alike key p.key ps e first) rest
  by Greater e more = and_both (is_first p.key (with ps key value)) (rises (with ps key value)) (first_with p.key ps key value (turned key p.key e) first) more

without_rises : (m : List Pair) (key : List ℕ) → IsTrue (rises m) → IsTrue (rises (without m key))
without_rises [] key h = refl
without_rises (p ∷ ps) key h = by (key_cmp key p.key) (without_rises ps key (and_right (is_first p.key ps) (rises ps) h)) where
  first : IsTrue (is_first p.key ps)
  first = and_left (is_first p.key ps) (rises ps) h

  rest : IsTrue (rises ps)
  rest = and_right (is_first p.key ps) (rises ps) h

  by : (o : Ordering) → IsTrue (rises (without ps key)) → IsTrue (rises (by_order o (p ∷ ps) ps (p ∷ without ps key)))
  by Less more = h
  by Equal more = rest
  by Greater more = and_both (is_first p.key (without ps key)) (rises (without ps key)) (first_without p.key ps key first rest) more

put_rises : (m : List Pair) (key : List ℕ) (value : Option (List ℕ)) → IsTrue (rises m) → IsTrue (rises (put_in m key value))
put_rises m key None h = without_rises m key h
put_rises m key (Some value) h = with_rises m key value h

pub after_rises : (m : List Pair) (puts : List Put) → IsTrue (rises m) → IsTrue (rises (after m puts))
after_rises m [] h = h
after_rises m (p ∷ ps) h = after_rises (put_in m p.key p.value) ps (put_rises m p.key p.value h)
