-- The numbers of a map's pairs in a pool: found one by one, and sorted, they are those from the lowest to the highest.
use Rattle.std.proofs.Common.{◌≡◌, ℕ, zero, suc, ◌+◌, ◌<◌, ◌≤◌, Bool, true, false, cond, true≢false, not, ◌&&◌, ◌||◌, eqb, List, [], ◌∷◌, map, length, get_or, slice_get, nat_lt, nat_cmp, Option, Some, None, is_some, T, refl, sym, ap, ap₂, ◌∙◌, subst, arith}
use Rattle.std.proofs.lemmas.Bool.Decides.{nat_tests}
use Rattle.std.proofs.lemmas.List.Sorted.{sum_by-IsPermutation, IsNonDecreasingBy-from_sort}
use Rattle.std.proofs.lemmas.List.Sums.{sum_by-cons}
use Rattle.std.specs.List.{IsDistinct, AllByRecursion, list_all, position, sum_by}
use Rattle.std.specs.List.Sorted.{IsPermutation, IsSorted}
use Rattle.std.specs.Ordering.{eq_by_cmp}
use Rattle.std.specs.FinMap.Entries.{find, is_sorted}
use Rattle.ep_units.specs.Text.{Text, text_cmp, text_eq}
use Rattle.ep_attr.specs.AttrMap.{AttrMap, Pair, get, is_value}
use Rattle.ep_attr.specs.Attrs.{pairs_of}
use Rattle.ep_attr.specs.declared.attr_map.Attr.{Attr}
use Rattle.ep_attr.proofs.Keys.{first, second, find_below}
use Rattle.ep_attr.proofs.Maps.{exact_test}
use Rattle.ep_attr.proofs.SameMap.{itself}
use Rattle.ep_pool.specs.Pool.{has, number_of, pair_of, same_pair}
use Rattle.ep_pool.proofs.Gathering.{number_within, same_pair_is}
use Rattle.ep_csread.specs.Spelling.{numbers_from, numbers_in}

-- a pair that is there is found at its number
pub found : (ps : List Pair) (p : Pair) → has ps p ≡ true → position (same_pair p) ps ≡ Some (number_of ps p)
found ps p there =
    let within : nat_lt (number_of ps p) (length ps) ≡ true = let l = number_within ps p there in grind (arith, nat_tests) in
    ap (λ b. cond b (Some (number_of ps p)) None) within

-- a pair is found where it is there
pub found_there : (ps : List Pair) (p : Pair) → is_some (position (same_pair p) ps) ≡ has ps p
found_there ps p = go (has ps p) refl
  where
    none : (qs : List Pair) → has qs p ≡ false → number_of qs p ≡ length qs
    none [] h = refl
    none (q ∷ qs) h = at (same_pair p q) h (λ t. none qs t)
      where
        at : (b : Bool) → (b || has qs p) ≡ false → (has qs p ≡ false → number_of qs p ≡ length qs) → cond (not b) (1 + number_of qs p) 0 ≡ suc (length qs)
        at true h again = absurd (true≢false h)
        at false h again = omega (arith, again h)

    go : (b : Bool) → has ps p ≡ b → is_some (position (same_pair p) ps) ≡ b
    go true e = ap is_some (found ps p e)
    go false e =
        let beyond : nat_lt (number_of ps p) (length ps) ≡ false = let n = none ps e in grind (arith, nat_tests) in
        ap (λ b. is_some (cond b (Some (number_of ps p)) None)) beyond

pub attr_there : (pool : List Pair) (attrs : List Attr) (i : ℕ) (a : Attr) → i < length attrs → a ≡ get_or attrs i a → list_all (has pool) (pairs_of attrs) ≡ true → has pool (pair_of a) ≡ true
attr_there pool [] i a h e all = absurd (omega arith)
attr_there pool (b ∷ attrs) zero a h e all = ap (λ x. has pool (pair_of x)) e ∙ front _ _ all
  where
    front : (x y : Bool) → (x && y) ≡ true → x ≡ true
    front true y e = refl
    front false y e = e
attr_there pool (b ∷ attrs) (suc i) a h e all = attr_there pool attrs i a (omega arith) e (back _ _ all)
  where
    back : (x y : Bool) → (x && y) ≡ true → y ≡ true
    back true y e = e
    back false y e = absurd (true≢false (sym e))

pub attr_missing : (pool : List Pair) (attrs : List Attr) (i : ℕ) (a : Attr) → i < length attrs → a ≡ get_or attrs i a → has pool (pair_of a) ≡ false → list_all (has pool) (pairs_of attrs) ≡ false
attr_missing pool attrs i a h e gone = go (list_all (has pool) (pairs_of attrs)) refl
  where
    go : (b : Bool) → list_all (has pool) (pairs_of attrs) ≡ b → b ≡ false
    go true all = sym (attr_there pool attrs i a h e all) ∙ gone
    go false all = refl

-- ---- how often a number stands in a list

abbrev one_if : Bool → ℕ
one_if b = cond b 1 0

abbrev count : ℕ → List ℕ → ℕ
count n [] = 0
count n (x ∷ xs) = cond (eqb x n) 1 0 + count n xs

count_sum : (n : ℕ) (xs : List ℕ) → sum_by (λ x. cond (eqb x n) 1 0) xs ≡ count n xs
count_sum n [] = refl
count_sum n (x ∷ xs) = sum_by-cons (λ x. cond (eqb x n) 1 0) x xs ∙ ap (λ k. cond (eqb x n) 1 0 + k) (count_sum n xs)

count-permutation : (n : ℕ) (xs ys : List ℕ) → IsPermutation xs ys → count n ys ≡ count n xs
count-permutation n xs ys h = sym (count_sum n ys) ∙ sum_by-IsPermutation (λ x. cond (eqb x n) 1 0) xs ys h ∙ count_sum n xs

-- no number falls below the one before it
abbrev Rises : ℕ → List ℕ → Type 0
Rises low [] = Unit {0}
Rises low (x ∷ xs) = (low ≤ x) × Rises x xs

lower : (low high : ℕ) (xs : List ℕ) → low ≤ high → Rises high xs → Rises low xs
lower low high [] h r = tt
lower low high (x ∷ xs) h r = (let l : high ≤ x = r.0 in omega arith, r.1)

apart : (x n : ℕ) → n < x → eqb x n ≡ false
apart x n h = grind (arith, nat_tests)

apart_too : (x n : ℕ) → x < n → eqb x n ≡ false
apart_too x n h = grind (arith, nat_tests)

met : (x : ℕ) → eqb x x ≡ true
met x = grind (arith, nat_tests)

none_below : (n low : ℕ) (xs : List ℕ) → n < low → Rises low xs → count n xs ≡ 0
none_below n low [] h r = refl
none_below n low (x ∷ xs) h r =
    let l : low ≤ x = r.0 in
    ap (λ b. cond b 1 0 + count n xs) (apart x n (omega arith)) ∙ omega (arith, none_below n x xs (omega arith) r.1)

absent_first : (x low : ℕ) (ys : List ℕ) → x < low → Rises low ys → (a : ℕ) → cond (eqb x x) 1 0 + a ≡ count x ys → ⊥
absent_first x low ys h r a e =
    let z : count x ys ≡ 0 = none_below x low ys h r in
    let o : ◌≡◌ {A = ℕ} (cond (eqb x x) 1 0) 1 = ap (λ (b : Bool). one_if b) (met x) in
    omega (arith, e, z, o)

same : (low : ℕ) (xs ys : List ℕ) → Rises low xs → Rises low ys → ((n : ℕ) → count n xs ≡ count n ys) → xs ≡ ys
same low [] [] r s h = refl
same low [] (y ∷ ys) r s h = absurd (let o : ◌≡◌ {A = ℕ} (cond (eqb y y) 1 0) 1 = ap (λ (b : Bool). one_if b) (met y) in omega (arith, h y, o))
same low (x ∷ xs) [] r s h = absurd (let o : ◌≡◌ {A = ℕ} (cond (eqb x x) 1 0) 1 = ap (λ (b : Bool). one_if b) (met x) in omega (arith, h x, o))
same low (x ∷ xs) (y ∷ ys) r s h = go (λ q t. same x xs ys r.1 t (cancel q)) (nat_lt x y) (nat_lt y x) refl refl
  where
    cancel : x ≡ y → (n : ℕ) → count n xs ≡ count n ys
    cancel e n =
        let o : ◌≡◌ {A = ℕ} (cond (eqb x n) 1 0) (cond (eqb y n) 1 0) = ap (λ (z : ℕ). one_if (eqb z n)) e in
        omega (arith, h n, o)

    go : (x ≡ y → Rises x ys → xs ≡ ys) → (b c : Bool) → nat_lt x y ≡ b → nat_lt y x ≡ c → x ∷ xs ≡ y ∷ ys
    go again true c e f = absurd (absent_first x y (y ∷ ys) (let l : x < y = grind (arith, nat_tests) in l) (omega arith, s.1) (count x xs) (h x))
    go again false true e f = absurd (absent_first y x (x ∷ xs) (let l : y < x = grind (arith, nat_tests) in l) (omega arith, r.1) (count y ys) (sym (h y)))
    go again false false e f =
        let q : x ≡ y = grind (arith, nat_tests) in
        ap₂ (λ z zs. z ∷ zs) q (again q (subst (λ z. Rises z ys) (sym q) s.1))

rises : (low : ℕ) (xs : List ℕ) → ((i : ℕ) → i < length xs → low ≤ get_or xs i 0) → ((i j d : ℕ) → i ≤ j → j < length xs → get_or xs i d ≤ get_or xs j d) → Rises low xs
rises low [] from up = tt
rises low (x ∷ xs) from up = (from 0 (omega arith), rises x xs (λ i h. up 0 (suc i) 0 (omega arith) (omega arith)) (λ i j d a b. up (suc i) (suc j) d (omega arith) (omega arith)))

sorted_rises : (xs : List ℕ) → IsSorted nat_cmp xs → Rises 0 xs
sorted_rises xs h = rises 0 xs (λ i l. omega arith) (IsNonDecreasingBy-from_sort (λ x. x) xs h)

numbers_rise : (i : ℕ) (ps : List Pair) (m : AttrMap) → Rises i (numbers_from i ps m)
numbers_rise i [] m = tt
numbers_rise i (p ∷ ps) m =
    let rest = lower i (suc i) (numbers_from (suc i) ps m) (omega arith) (numbers_rise (suc i) ps m) in
    elim (is_value p.1 (get m p.0)) as (λ b. Rises i (cond b (i ∷ numbers_from (suc i) ps m) (numbers_from (suc i) ps m))) [ true ↦ (omega arith, rest) | false ↦ rest ]

-- ---- a number stands among a map's numbers where the map has the pair at that number

abbrev bit : AttrMap → Option Pair → ℕ
bit m None = 0
bit m (Some p) = cond (is_value p.1 (get m p.0)) 1 0

count-numbers : (i k : ℕ) (ps : List Pair) (m : AttrMap) → count (i + k) (numbers_from i ps m) ≡ bit m (slice_get ps k)
count-numbers i k [] m = refl
count-numbers i zero (p ∷ ps) m = go (is_value p.1 (get m p.0))
  where
    rest : count (i + 0) (numbers_from (suc i) ps m) ≡ 0
    rest = none_below (i + 0) (suc i) (numbers_from (suc i) ps m) (omega arith) (numbers_rise (suc i) ps m)

    go : (b : Bool) → count (i + 0) (cond b (i ∷ numbers_from (suc i) ps m) (numbers_from (suc i) ps m)) ≡ cond b 1 0
    go true = let t : eqb i (i + 0) ≡ true = grind (arith, nat_tests) in ap (λ b. cond b 1 0 + count (i + 0) (numbers_from (suc i) ps m)) t ∙ omega (arith, rest)
    go false = rest
count-numbers i (suc k) (p ∷ ps) m =
    go (let e : i + suc k ≡ suc i + k = omega arith in ap (λ n. count n (numbers_from (suc i) ps m)) e ∙ count-numbers (suc i) k ps m) (is_value p.1 (get m p.0))
  where
    go : count (i + suc k) (numbers_from (suc i) ps m) ≡ bit m (slice_get ps k) → (b : Bool) → count (i + suc k) (cond b (i ∷ numbers_from (suc i) ps m) (numbers_from (suc i) ps m)) ≡ bit m (slice_get ps k)
    go rest true = ap (λ b. cond b 1 0 + count (i + suc k) (numbers_from (suc i) ps m)) (apart_too i (i + suc k) (omega arith)) ∙ (let z : 0 + count (i + suc k) (numbers_from (suc i) ps m) ≡ count (i + suc k) (numbers_from (suc i) ps m) = omega arith in z) ∙ rest
    go rest false = rest

-- ---- and among the numbers that were found as often as the pair stands in the map, which is once

abbrev same_at : Pair → Option Pair → Bool
same_at q None = false
same_at q (Some p) = same_pair q p

not_again : (q : Pair) (ps : List Pair) (k : ℕ) → AllByRecursion (λ p. same_pair q p ≡ false) ps → same_at q (slice_get ps k) ≡ false
not_again q [] k h = refl
not_again q (p ∷ ps) zero h = h.0
not_again q (p ∷ ps) (suc k) h = not_again q ps k h.1

number_at : (ps : List Pair) (q : Pair) (n : ℕ) → IsDistinct same_pair ps → has ps q ≡ true → eqb (number_of ps q) n ≡ same_at q (slice_get ps n)
unfolding IsDistinct
number_at [] q n d h = absurd (true≢false (sym h))
number_at (p ∷ ps) q n d h = go (λ k t. number_at ps q k d.1 t) (same_pair q p) refl n
  where
    go : ((k : ℕ) → has ps q ≡ true → eqb (number_of ps q) k ≡ same_at q (slice_get ps k)) → (b : Bool) → same_pair q p ≡ b → (n : ℕ) → eqb (cond (not b) (1 + number_of ps q) 0) n ≡ same_at q (slice_get (p ∷ ps) n)
    go again true e zero = sym e
    go again true e (suc k) =
        let t : eqb 0 (suc k) ≡ false = grind (arith, nat_tests) in
        t ∙ sym (not_again q ps k (subst (λ x. AllByRecursion (λ p. same_pair x p ≡ false) ps) (sym (same_pair_is q p e)) d.0))
    go again false e zero = let t : eqb (1 + number_of ps q) 0 ≡ false = grind (arith, nat_tests) in t ∙ sym e
    go again false e (suc k) =
        let t : eqb (1 + number_of ps q) (suc k) ≡ eqb (number_of ps q) k = grind (arith, nat_tests) in
        t ∙ again k (sym (ap (λ b. b || has ps q) e) ∙ h)

abbrev hits : Option Pair → List Pair → ℕ
hits o [] = 0
hits o (q ∷ qs) = cond (same_at q o) 1 0 + hits o qs

count-found : (pool : List Pair) (n : ℕ) (qs : List Pair) → IsDistinct same_pair pool → list_all (has pool) qs ≡ true → count n (map (number_of pool) qs) ≡ hits (slice_get pool n) qs
count-found pool n [] d h = refl
count-found pool n (q ∷ qs) d h = go (λ t. count-found pool n qs d t) (has pool q) refl h
  where
    go : (list_all (has pool) qs ≡ true → count n (map (number_of pool) qs) ≡ hits (slice_get pool n) qs) → (b : Bool) → has pool q ≡ b → (b && list_all (has pool) qs) ≡ true → cond (eqb (number_of pool q) n) 1 0 + count n (map (number_of pool) qs) ≡ cond (same_at q (slice_get pool n)) 1 0 + hits (slice_get pool n) qs
    go again true e all = ap₂ (λ b c. cond b 1 0 + c) (number_at pool q n d e) (again all)
    go again false e all = absurd (true≢false (sym all))

hits_none : (qs : List Pair) → hits None qs ≡ 0
hits_none [] = refl
hits_none (q ∷ qs) = omega (arith, hits_none qs)

turned : (a b : Text) → text_eq a b ≡ text_eq b a
turned a b = go (text_eq a b) (text_eq b a) refl refl
  where
    go : (x y : Bool) → text_eq a b ≡ x → text_eq b a ≡ y → x ≡ y
    go true true e f = refl
    go false false e f = refl
    go true false e f = sym (ap (λ t. text_eq t a) (sym (exact_test a b e)) ∙ itself a) ∙ f
    go false true e f = sym e ∙ (ap (λ t. text_eq t b) (sym (exact_test b a f)) ∙ itself b)

hits_one : (p : Pair) (qs : List Pair) → T (is_sorted text_cmp qs) → hits (Some p) qs ≡ cond (is_value p.1 (find text_cmp p.0 qs)) 1 0
hits_one p [] s = refl
hits_one p (q ∷ qs) s = go (hits_one p qs (second _ _ s)) (eq_by_cmp text_cmp p.0 q.0) refl
  where
    go : hits (Some p) qs ≡ cond (is_value p.1 (find text_cmp p.0 qs)) 1 0 → (b : Bool) → eq_by_cmp text_cmp p.0 q.0 ≡ b → cond (same_pair q p) 1 0 + hits (Some p) qs ≡ cond (is_value p.1 (cond b (Some q.1) (find text_cmp p.0 qs))) 1 0
    go again true e =
        let gone : find text_cmp p.0 qs ≡ None = ap (λ k. find text_cmp k qs) (exact_test p.0 q.0 e) ∙ find_below q.0 qs (first _ _ s) in
        let rest : hits (Some p) qs ≡ 0 = again ∙ ap (λ o. cond (is_value p.1 o) 1 0) gone in
        let keys : text_eq q.0 p.0 ≡ true = turned q.0 p.0 ∙ e in
        ap (λ k. cond (same_pair q p) 1 0 + k) rest ∙ ap (λ b. cond (b && text_eq q.1 p.1) 1 0 + 0) keys ∙ ap (λ b. cond b 1 0 + 0) (turned q.1 p.1) ∙ (let z : cond (text_eq p.1 q.1) 1 0 + 0 ≡ cond (text_eq p.1 q.1) 1 0 = omega arith in z)
    go again false e =
        let keys : text_eq q.0 p.0 ≡ false = turned q.0 p.0 ∙ e in
        ap (λ b. cond (b && text_eq q.1 p.1) 1 0 + hits (Some p) qs) keys ∙ (let z : 0 + hits (Some p) qs ≡ hits (Some p) qs = omega arith in z) ∙ again

hits_bit : (m : AttrMap) (o : Option Pair) → hits o m.pairs ≡ bit m o
hits_bit m None = hits_none m.pairs
hits_bit m (Some p) = hits_one p m.pairs m.sorted

pub sorted_numbers : (pool : List Pair) (m : AttrMap) (before after : List ℕ) → IsDistinct same_pair pool → list_all (has pool) m.pairs ≡ true
    → before ≡ map (number_of pool) m.pairs → IsPermutation before after → IsSorted nat_cmp after → after ≡ numbers_in pool m
sorted_numbers pool m before after d all is moved sorted =
    same 0 after (numbers_in pool m) (sorted_rises after sorted) (numbers_rise 0 pool m) (λ n.
    count-permutation n before after moved ∙ ap (count n) is ∙ count-found pool n m.pairs d all ∙ hits_bit m (slice_get pool n)
    ∙ sym (count-numbers 0 n pool m) ∙ ap (λ k. count k (numbers_in pool m)) (let z : 0 + n ≡ n = omega arith in z))
