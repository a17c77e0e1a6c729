-- Pairs that are put into a pool in the order of their numbers.
use Rattle.std.proofs.Common.{◌≡◌, ℕ, zero, suc, ◌+◌, ◌<◌, ◌≤◌, List, [], ◌∷◌, ◌++◌, Bool, true, false, true≢false, cond, ◌&&◌, ◌||◌, length, get_or, slice_get, Option, Some, refl, sym, ap, ◌∙◌, arith}
use Rattle.std.proofs.lemmas.List.Sums.{passes_at_first}
use Rattle.std.proofs.lemmas.Map.Keys.{apart_from_distinct}
use Rattle.std.proofs.lemmas.Option.{same_Some, slice_get-get_or}
use Rattle.std.specs.List.{IsDistinct}
use Rattle.ep_attr.specs.AttrMap.{Pair}
use Rattle.ep_attr.proofs.Maps.{exact_test}
use Rattle.ep_attr.proofs.SameMap.{both_true, itself}
use Rattle.ep_pool.specs.Pool.{has, number_of, put, same_pair}
use Rattle.ep_pool.specs.Read.{IsLeast}

both : (a b : Bool) (P Q : Type 0) → (a ≡ true → P) → (b ≡ true → Q) → (a && b) ≡ true → P × Q
both true b P Q f g h = (f refl, g h)
both false b P Q f g h = absurd (true≢false (sym h))

pub same_pair_is : (p q : Pair) → same_pair p q ≡ true → p ≡ q
same_pair_is p q h =
    let parts = both _ _ (p.0 ≡ q.0) (p.1 ≡ q.1) (exact_test p.0 q.0) (exact_test p.1 q.1) h in
    λ i. (parts.0 i, parts.1 i)

pub same_pair_itself : (p : Pair) → same_pair p p ≡ true
same_pair_itself p = both_true _ _ (itself p.0) (itself p.1)

within_at : (b : Bool) (p q : Pair) (qs : List Pair) → same_pair p q ≡ b → (has qs p ≡ true → number_of qs p < length qs) → has (q ∷ qs) p ≡ true → number_of (q ∷ qs) p < length (q ∷ qs)
within_at true p q qs is rest there = rw is (omega arith)
within_at false p q qs is rest there =
    let below = rest (sym (ap (λ b. b || has qs p) is) ∙ there) in
    rw is (omega (arith, below))

-- a pair that is there has a number below the count
pub number_within : (ps : List Pair) (p : Pair) → has ps p ≡ true → number_of ps p < length ps
number_within [] p there = absurd (true≢false (sym there))
number_within (q ∷ qs) p there = within_at (same_pair p q) p q qs refl (number_within qs p) there

pub absent : (ps : List Pair) (p : Pair) → length ps ≤ number_of ps p → has ps p ≡ false
absent ps p beyond = at (has ps p) refl
  where
    at : (b : Bool) → has ps p ≡ b → b ≡ false
    at true is = absurd (let below = number_within ps p is in omega (arith, below, beyond))
    at false is = refl

pub put_new : (ps : List Pair) (p : Pair) → length ps ≤ number_of ps p → put ps p ≡ ps ++ p ∷ []
put_new ps p beyond = ap (λ b. cond b ps (ps ++ p ∷ [])) (absent ps p beyond)

-- pairs that stand at their numbers, with one more
pub entries_more : (E : ℕ → Option Pair) (ps : List Pair) (n : ℕ) (p : Pair) → length ps ≡ n → ((k : ℕ) → k < n → E k ≡ slice_get ps k) → E n ≡ Some p
    → (k : ℕ) → k < n + 1 → E k ≡ slice_get (ps ++ p ∷ []) k
entries_more E [] n p len so_far is zero below = rw len is
entries_more E [] n p len so_far is (suc k) below = absurd (omega (arith, len, below))
entries_more E (q ∷ qs) n p len so_far is zero below = so_far 0 (omega (arith, len))
entries_more E (q ∷ qs) zero p len so_far is (suc k) below = absurd (omega (arith, below))
entries_more E (q ∷ qs) (suc n) p len so_far is (suc k) below =
    entries_more (λ j. E (suc j)) qs n p (omega (arith, len)) (λ j h. so_far (suc j) (omega (arith, h))) is k (omega (arith, below))

-- a pair whose number is lower than its place stands there too, and no pair before it does
pub twice_at : (E : ℕ → Option Pair) (ps : List Pair) (n r : ℕ) (p : Pair) → length ps ≡ n → ((k : ℕ) → k < n → E k ≡ slice_get ps k) → IsDistinct same_pair ps
    → E n ≡ Some p → r ≡ number_of ps p → r < n → IsLeast (λ m. (k : ℕ) × (k < m) × (E k ≡ E m)) n
twice_at E ps n r p len so_far distinct is number lower =
    let below : number_of ps p < length ps = omega (arith, number, lower, len) in
    let same : p ≡ get_or ps (number_of ps p) p = same_pair_is p _ (passes_at_first (same_pair p) ps p below) in
    let found : slice_get ps r ≡ Some p = rw number (slice_get-get_or ps (number_of ps p) p below ∙ ap Some (sym same)) in (
      (r, lower, so_far r lower ∙ (found ∙ sym is)),
      none,
    )
  where
    none : (k : ℕ) → k < n → ((x : ℕ) × (x < k) × (E x ≡ E k)) → ⊥
    none k below twice =
        let within : k < length ps = omega (arith, below, len) in
        let x = twice.0 in
        let within_x : x < length ps = omega (arith, within, twice.1) in
        let ex : slice_get ps x ≡ slice_get ps k = sym (so_far x (omega (arith, below, twice.1))) ∙ (twice.2 ∙ so_far k below) in
        let one : get_or ps x p ≡ get_or ps k p = same_Some _ _ (sym (slice_get-get_or ps x p within_x) ∙ (ex ∙ slice_get-get_or ps k p within)) in
        let apart = apart_from_distinct same_pair ps x k p distinct twice.1 within in
        true≢false (sym (same_pair_itself (get_or ps k p)) ∙ (ap (λ q. same_pair q (get_or ps k p)) (sym one) ∙ apart))
