-- A pair is found by the order of the numbers exactly where it is there.
use Rattle.std.proofs.Common.{◌≡◌, ℕ, zero, suc, ◌+◌, ◌<◌, ◌≤◌, Bool, true, false, true≢false, not, ◌&&◌, ◌||◌, cond, List, [], ◌∷◌, ◌++◌, length, get_or, nat_eq, nat_lt, Option, Some, None, Ordering, Less, Equal, Greater, refl, sym, ap, ap₂, ◌∙◌, subst, inl, inr, arith, length-append}
use Rattle.std.specs.Cmp.{IsEquivalence}
use Rattle.std.specs.List.{IsDistinct, list_all, list_any, position, position_or_len}
use Rattle.std.specs.Ordering.{eq_by_cmp, is_eq, ordering_then}
use Rattle.std.proofs.lemmas.Bool.{and_parts, and_from, cases_lt, eq-eqb, eqb-true, le-ltb, lt-ltb, ltb-false, ltb-true, or_right}
use Rattle.std.proofs.lemmas.Cmp.{eq_by_cmp_equiv, on_equiv}
use Rattle.std.proofs.lemmas.List.{get_or_append_left, get_or_push}
use Rattle.std.proofs.lemmas.List.Sums.{passes_at_first, position_or_len_is}
use Rattle.std.proofs.lemmas.Map.Keys.{IsDistinct-push, apart_from_distinct}
use Rattle.std.proofs.lemmas.Option.{none-some, same_Some}
use Rattle.ep_attr.specs.AttrMap.{Pair}
use Rattle.ep_attr.specs.declared.attr_map.Attr.{Attr}
use Rattle.ep_pool.specs.Index.{AreWhole, are_within, is_below, is_rising, number_at, pair_at, pair_cmp, placed}
use Rattle.ep_pool.specs.Pool.{distinct_pairs, has, number_of, pair_of, put, same_attr, same_pair}
use Rattle.ep_attr.specs.Attrs.{pairs_of}
use Rattle.ep_pool.proofs.Attrs.{has-pairs_of, length-pairs_of, pairs_of-append}
use Rattle.ep_pool.proofs.Gathering.{absent, same_pair_is, same_pair_itself}
use Rattle.ep_pool.proofs.Index.{all_placed, any_placed, pair_total, rising_placed}

both_equal : (o u : Ordering) → is_eq (ordering_then u o) ≡ (is_eq o && is_eq u)
both_equal Less Less = refl
both_equal Less Equal = refl
both_equal Less Greater = refl
both_equal Equal Less = refl
both_equal Equal Equal = refl
both_equal Equal Greater = refl
both_equal Greater Less = refl
both_equal Greater Equal = refl
both_equal Greater Greater = refl

same_by_order : (p q : Pair) → is_eq (pair_cmp p q) ≡ same_pair p q
same_by_order p q = both_equal _ _

pub same_pair_equiv : IsEquivalence same_pair
same_pair_equiv = subst IsEquivalence (λ i p q. same_by_order p q i) (eq_by_cmp_equiv pair_total)

-- one more attribute that is not there
pub distinct_push : (attrs : List Attr) (a : Attr) → IsDistinct same_attr attrs → list_any (same_attr a) attrs ≡ false → IsDistinct same_attr (attrs ++ a ∷ [])
distinct_push attrs a distinct none = IsDistinct-push (on_equiv pair_of same_pair_equiv) attrs a distinct none

any_at : (test : Pair → Bool) (ps : List Pair) (k : ℕ) (d : Pair) → k < length ps → test (get_or ps k d) ≡ true → list_any test ps ≡ true
any_at test [] k d h e = absurd (omega arith)
any_at test (p ∷ ps) zero d h e = ap (λ b. b || list_any test ps) e
any_at test (p ∷ ps) (suc k) d h e = or_right (test p) _ (any_at test ps k d (omega arith) e)

none_at : (test : Pair → Bool) (ps : List Pair) (d : Pair) → ((k : ℕ) → k < length ps → test (get_or ps k d) ≡ false) → list_any test ps ≡ false
none_at test [] d each = refl
none_at test (p ∷ ps) d each = ap₂ (λ a b. a || b) (each 0 (omega arith)) (none_at test ps d (λ k h. each (suc k) (omega (arith, h))))

-- what no number finds, no number's pair is
number_fails : (ps : List Pair) (p : Pair) (ns : List ℕ) (k : ℕ) → number_at ps p ns ≡ None → list_any (nat_eq k) ns ≡ true → is_eq (pair_cmp p (pair_at ps k)) ≡ false
number_fails ps p [] k none there = absurd (true≢false (sym there))
number_fails ps p (n ∷ ns) k none there =
    here (λ gone t. number_fails ps p ns k gone t) (is_eq (pair_cmp p (pair_at ps n))) refl none (nat_eq k n) refl there
  where
    here : (number_at ps p ns ≡ None → list_any (nat_eq k) ns ≡ true → is_eq (pair_cmp p (pair_at ps k)) ≡ false) → (b : Bool) → is_eq (pair_cmp p (pair_at ps n)) ≡ b
        → cond b (Some n) (number_at ps p ns) ≡ None → (c : Bool) → nat_eq k n ≡ c → (c || list_any (nat_eq k) ns) ≡ true
        → is_eq (pair_cmp p (pair_at ps k)) ≡ false
    here later true e gone c f t = absurd (none-some n (sym gone))
    here later false e gone true f t = subst (λ m. is_eq (pair_cmp p (pair_at ps m)) ≡ false) (sym (eqb-true k n f)) e
    here later false e gone false f t = later gone t

pub record Finds (ps : List Pair) (p : Pair) (count k : ℕ) : Type 0 where
  pub within : k < count
  pub same : is_eq (pair_cmp p (pair_at ps k)) ≡ true

number_finds : (ps : List Pair) (p : Pair) (count : ℕ) (ns : List ℕ) (k : ℕ) → are_within count ns ≡ true → number_at ps p ns ≡ Some k → Finds ps p count k
number_finds ps p count [] k within found = absurd (none-some k found)
number_finds ps p count (n ∷ ns) k within found = here (number_finds ps p count ns k (and_parts _ _ within).1) (is_eq (pair_cmp p (pair_at ps n))) refl found
  where
    here : (number_at ps p ns ≡ Some k → Finds ps p count k) → (b : Bool) → is_eq (pair_cmp p (pair_at ps n)) ≡ b → cond b (Some n) (number_at ps p ns) ≡ Some k → Finds ps p count k
    here later true e is = subst (Finds ps p count) (same_Some n k is) (record { within = ltb-true n count (and_parts _ _ within).0; same = e })
    here later false e is = later is

module _ (ps : List Pair) (p : Pair) (ns : List ℕ) (within : are_within (length ps) ns ≡ true) (whole : AreWhole (length ps) ns) where
  fails : number_at ps p ns ≡ None → (k : ℕ) → k < length ps → same_pair p (get_or ps k ([], [])) ≡ false
  fails none k h = sym (same_by_order p (pair_at ps k)) ∙ number_fails ps p ns k none (whole k h)

  pub absent_has : number_at ps p ns ≡ None → has ps p ≡ false
  absent_has none = none_at (same_pair p) ps ([], []) (fails none)

  pub absent_number : number_at ps p ns ≡ None → number_of ps p ≡ length ps
  absent_number none = position_or_len_is (same_pair p) ps (length ps) ([], []) (omega arith) (fails none) (λ h. absurd (omega (arith, h)))

  pub present_has : (k : ℕ) → number_at ps p ns ≡ Some k → has ps p ≡ true
  present_has k found =
      let it = number_finds ps p (length ps) ns k within found in
      any_at (same_pair p) ps k ([], []) it.within (sym (same_by_order p (pair_at ps k)) ∙ it.same)

  pub present_number : IsDistinct same_pair ps → (k : ℕ) → number_at ps p ns ≡ Some k → number_of ps p ≡ k
  present_number distinct k found =
      let it = number_finds ps p (length ps) ns k within found in
      let same = sym (same_by_order p (pair_at ps k)) ∙ it.same in
      position_or_len_is (same_pair p) ps k ([], []) (omega (arith, it.within)) (earlier it.within same) (λ _. same)
    where
      earlier : k < length ps → same_pair p (pair_at ps k) ≡ true → (i : ℕ) → i < k → same_pair p (get_or ps i ([], [])) ≡ false
      earlier h same i lower = go (same_pair p (pair_at ps i)) refl
        where
          go : (b : Bool) → same_pair p (pair_at ps i) ≡ b → b ≡ false
          go true e =
              let one : pair_at ps i ≡ pair_at ps k = sym (same_pair_is p (pair_at ps i) e) ∙ same_pair_is p (pair_at ps k) same in
              let apart = apart_from_distinct same_pair ps i k ([], []) distinct lower h in
              sym (same_pair_itself (pair_at ps k)) ∙ (ap (λ q. same_pair q (pair_at ps k)) (sym one) ∙ apart)
          go false e = refl

  pub found_position : IsDistinct same_pair ps → number_at ps p ns ≡ position (same_pair p) ps
  found_position distinct = go (number_at ps p ns) refl
    where
      go : (o : Option ℕ) → number_at ps p ns ≡ o → o ≡ position (same_pair p) ps
      go None e = sym (ap (λ n. cond (nat_lt n (length ps)) (Some n) None) (absent_number e) ∙ ap (λ b. cond b (Some (length ps)) None) (le-ltb (length ps) (length ps) (omega arith)))
      go (Some k) e =
          let it = number_finds ps p (length ps) ns k within e in
          sym (ap (λ n. cond (nat_lt n (length ps)) (Some n) None) (present_number distinct k e) ∙ ap (λ b. cond b (Some k) None) (lt-ltb k (length ps) it.within))

-- numbers of the pairs, where one more pair stands behind them
module _ (ps : List Pair) (q : Pair) where
  pub at_more : (n : ℕ) → n < length ps → pair_at (ps ++ q ∷ []) n ≡ pair_at ps n
  at_more n h = get_or_append_left ps (q ∷ []) ([], []) n h

  below_more : (n : ℕ) (ns : List ℕ) → n < length ps → are_within (length ps) ns ≡ true → list_all (is_below (ps ++ q ∷ []) n) ns ≡ list_all (is_below ps n) ns
  below_more n [] h within = refl
  below_more n (m ∷ ns) h within =
      let parts = and_parts _ _ within in
      ap₂ (λ a b. a && b) (λ i. is_lt_of (at_more n h i) (at_more m (ltb-true m (length ps) parts.0) i)) (below_more n ns h parts.1)
    where
      is_lt_of : Pair → Pair → Bool
      is_lt_of a b = Rattle.std.specs.Ordering.is_lt (pair_cmp a b)

  pub rising_more : (ns : List ℕ) → are_within (length ps) ns ≡ true → is_rising (ps ++ q ∷ []) ns ≡ is_rising ps ns
  rising_more [] within = refl
  rising_more (n ∷ ns) within =
      let parts = and_parts _ _ within in
      ap₂ (λ a b. a && b) (below_more n ns (ltb-true n (length ps) parts.0) parts.1) (rising_more ns parts.1)

  pub number_more : (p : Pair) (ns : List ℕ) → are_within (length ps) ns ≡ true → number_at (ps ++ q ∷ []) p ns ≡ number_at ps p ns
  number_more p [] within = refl
  number_more p (n ∷ ns) within =
      let parts = and_parts _ _ within in
      ap₂ (λ a o. cond (is_eq (pair_cmp p a)) (Some n) o) (at_more n (ltb-true n (length ps) parts.0)) (number_more p ns parts.1)

pub within_more : (count more : ℕ) (ns : List ℕ) → count ≤ more → are_within count ns ≡ true → are_within more ns ≡ true
within_more count more [] h within = refl
within_more count more (n ∷ ns) h within =
    let parts = and_parts (nat_lt n count) (are_within count ns) within in
    and_from _ _ (lt-ltb n more (omega (arith, h, ltb-true n count parts.0))) (within_more count more ns h parts.1)

-- the numbers, with that of one more pair placed among them
module _ (ps : List Pair) (q : Pair) (ns : List ℕ) (within : are_within (length ps) ns ≡ true) where
  pub within_push : are_within (length ps + 1) (placed (ps ++ q ∷ []) (length ps) ns) ≡ true
  within_push = all_placed (ps ++ q ∷ []) (λ n. nat_lt n (length ps + 1)) (length ps) ns (lt-ltb (length ps) (length ps + 1) (omega arith)) (within_more (length ps) (length ps + 1) ns (omega arith) within)

  pub whole_push : AreWhole (length ps) ns → AreWhole (length ps + 1) (placed (ps ++ q ∷ []) (length ps) ns)
  whole_push whole n h =
      any_placed (ps ++ q ∷ []) (nat_eq n) (length ps) ns
      ∙ elim (cases_lt n (length ps)) [
        | inl lower ↦ or_right (nat_eq n (length ps)) (list_any (nat_eq n) ns) (whole n lower)
        | inr last ↦ ap (λ b. b || list_any (nat_eq n) ns) (eq-eqb n (length ps) (omega (arith, h, last)))
      ]

  pub rising_push : is_rising ps ns ≡ true → number_at ps q ns ≡ None → is_rising (ps ++ q ∷ []) (placed (ps ++ q ∷ []) (length ps) ns) ≡ true
  rising_push rising none =
      rising_placed (ps ++ q ∷ []) (length ps) ns (rising_more ps q ns within ∙ rising)
      (ap (λ p. number_at (ps ++ q ∷ []) p ns) (get_or_push ps q ([], []) (length ps) refl) ∙ (number_more ps q q ns within ∙ none))

none_found : (ps : List Pair) (p : Pair) (ns : List ℕ) → are_within (length ps) ns ≡ true → AreWhole (length ps) ns → has ps p ≡ false → number_at ps p ns ≡ None
none_found ps p ns within whole none = go (number_at ps p ns) refl
  where
    go : (o : Option ℕ) → number_at ps p ns ≡ o → o ≡ None
    go None e = refl
    go (Some k) e = absurd (true≢false (sym (present_has ps p ns within whole k e) ∙ none))

-- attributes, and their numbers in order
pub record AreNumbered (attrs : List Attr) (ns : List ℕ) : Type 0 where
  pub distinct : IsDistinct same_attr attrs
  pub within : are_within (length attrs) ns ≡ true
  pub rising : is_rising (pairs_of attrs) ns ≡ true
  pub whole : AreWhole (length attrs) ns

module _ (attrs : List Attr) (ns : List ℕ) (are : AreNumbered attrs ns) where
  pub pairs_within : are_within (length (pairs_of attrs)) ns ≡ true
  pairs_within = subst (λ n. are_within n ns ≡ true) (sym (length-pairs_of attrs)) are.within

  pub pairs_whole : AreWhole (length (pairs_of attrs)) ns
  pairs_whole = subst (λ n. AreWhole n ns) (sym (length-pairs_of attrs)) are.whole

  pub find_is : (p : Pair) → number_at (pairs_of attrs) p ns ≡ position (same_pair p) (pairs_of attrs)
  find_is p = found_position (pairs_of attrs) p ns pairs_within pairs_whole (distinct_pairs attrs are.distinct)

  -- with one more attribute the numbers are still in order
  pub within_still : (a : Attr) → are_within (length (attrs ++ a ∷ [])) ns ≡ true
  within_still a = within_more (length attrs) (length (attrs ++ a ∷ [])) ns (omega (arith, length-append attrs (a ∷ []))) are.within

  pub rising_still : (a : Attr) → is_rising (pairs_of (attrs ++ a ∷ [])) ns ≡ true
  rising_still a = ap (λ (qs : List Pair). is_rising qs ns) (pairs_of-append attrs (a ∷ [])) ∙ (rising_more (pairs_of attrs) (pair_of a) ns pairs_within ∙ are.rising)

  grown_at : (a : Attr) → has (pairs_of attrs) (pair_of a) ≡ false → AreNumbered (attrs ++ a ∷ []) (placed (pairs_of attrs ++ pair_of a ∷ []) (length (pairs_of attrs)) ns)
  grown_at a none =
      let ps : List Pair = pairs_of attrs in
      let new : List ℕ = placed (ps ++ pair_of a ∷ []) (length ps) ns in
      let count : length ps + 1 ≡ length (attrs ++ a ∷ []) = omega (arith, length-append attrs (a ∷ []), length-pairs_of attrs) in record {
        distinct = distinct_push attrs a are.distinct (sym (has-pairs_of attrs a) ∙ none);
        within = subst (λ n. are_within n new ≡ true) count (within_push ps (pair_of a) ns pairs_within);
        rising =
            subst (λ (qs : List Pair). is_rising qs new ≡ true) (sym (pairs_of-append attrs (a ∷ [])))
            (rising_push ps (pair_of a) ns pairs_within are.rising (none_found ps (pair_of a) ns pairs_within pairs_whole none));
        whole = subst (λ n. AreWhole n new) count (whole_push ps (pair_of a) ns pairs_within pairs_whole);
      }

  -- with one more attribute that is not there, and its number in its place
  pub grown : (a : Attr) (more : List Attr) (number : ℕ) (numbers : List ℕ) → has (pairs_of attrs) (pair_of a) ≡ false → more ≡ attrs ++ a ∷ [] → number ≡ length attrs
      → numbers ≡ placed (pairs_of more) number ns → AreNumbered more numbers
  grown a more number numbers none more_is number_is numbers_is =
      let pairs_is : pairs_of more ≡ pairs_of attrs ++ pair_of a ∷ [] = ap pairs_of more_is ∙ pairs_of-append attrs (a ∷ []) in
      let placed_is : numbers ≡ placed (pairs_of attrs ++ pair_of a ∷ []) (length (pairs_of attrs)) ns =
      numbers_is ∙ ap₂ (λ (qs : List Pair) (n : ℕ). placed qs n ns) pairs_is (number_is ∙ sym (length-pairs_of attrs)) in
      subst (λ (xs : List Attr). AreNumbered xs numbers) (sym more_is) (subst (AreNumbered (attrs ++ a ∷ [])) (sym placed_is) (grown_at a none))

-- the place of a pair
pub record IsThere (ps : List Pair) (p : Pair) (k : ℕ) : Type 0 where
  pub number : number_of ps p ≡ k
  pub has_it : has ps p ≡ true

pub is_there : (ps : List Pair) (p : Pair) (k : ℕ) → position (same_pair p) ps ≡ Some k → IsThere ps p k
is_there ps p k e = go (nat_lt (number_of ps p) (length ps)) refl e
  where
    go : (b : Bool) → nat_lt (number_of ps p) (length ps) ≡ b → cond b (Some (number_of ps p)) None ≡ Some k → IsThere ps p k
    go true t is =
        let h = ltb-true (number_of ps p) (length ps) t in
        record { number = same_Some (number_of ps p) k is; has_it = any_at (same_pair p) ps (number_of ps p) p h (passes_at_first (same_pair p) ps p h) }
    go false t is = absurd (none-some k is)

pub is_absent : (ps : List Pair) (p : Pair) → position (same_pair p) ps ≡ None → has ps p ≡ false
is_absent ps p e = go (nat_lt (number_of ps p) (length ps)) refl e
  where
    go : (b : Bool) → nat_lt (number_of ps p) (length ps) ≡ b → cond b (Some (number_of ps p)) None ≡ None → has ps p ≡ false
    go true t is = absurd (none-some (number_of ps p) (sym is))
    go false t is = absent ps p (ltb-false (number_of ps p) (length ps) t)

pub number_absent : (ps : List Pair) (p : Pair) → has ps p ≡ false → number_of ps p ≡ length ps
number_absent [] p none = refl
number_absent (q ∷ ps) p none = at (same_pair p q) none (number_absent ps p)
  where
    at : (b : Bool) → (b || has ps p) ≡ false → (has ps p ≡ false → number_of ps p ≡ length ps) → cond (not b) (1 + number_of ps p) 0 ≡ suc (length ps)
    at true e later = absurd (true≢false e)
    at false e later = omega (arith, later e)

numbered_nothing : AreNumbered [] []
unfolding IsDistinct
numbered_nothing = record { distinct = tt; within = refl; rising = refl; whole = λ n h. absurd (omega (arith, h)) }

pub numbered_none : (attrs : List Attr) (ns : List ℕ) → attrs ≡ [] → ns ≡ [] → AreNumbered attrs ns
numbered_none attrs ns no_attrs no_numbers =
    subst (λ (xs : List Attr). AreNumbered xs ns) (sym no_attrs) (subst (AreNumbered []) (sym no_numbers) numbered_nothing)
