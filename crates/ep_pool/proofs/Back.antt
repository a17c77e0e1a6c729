-- The JSON of a pool, read.
use Rattle.std.proofs.Common.{◌≡◌, ℕ, zero, suc, ◌+◌, ◌<◌, ◌≤◌, ◌^◌, List, [], ◌∷◌, Bool, true, false, true≢false, not, nat_lt, nat_le, cond, length, slice_get, get_or, Option, Some, None, is_some, unwrap_or, option_map, option_and_then, IsSome, Ordering, Less, Equal, Greater, codes, decimal, inl, inr, subst, refl, sym, ap, ◌∙◌, arith}
use Rattle.std.specs.List.{IsDistinct}
use Rattle.std.specs.Ordering.{nat_cmp, match_ordering}
use Rattle.std.specs.Cmp.Lexicographic.{slice_cmp}
use Rattle.std.proofs.lemmas.Map.Keys.{apart_from_distinct}
use Rattle.std.proofs.lemmas.Bool.{cases_order, le-leb, leb-true}
use Rattle.std.proofs.lemmas.Option.{none-some, same_Some, slice_get-get_or}
use Rattle.serde_json.specs.Data.{Data, Members, no_members, member, put}
use Rattle.serde_json.specs.Find.{as_number, as_u64, get, get_member}
use Rattle.serde_json.proofs.Views.{get_member-put, get_member-put_other}
use Rattle.ep_attr.specs.AttrMap.{Pair}
use Rattle.ep_units.specs.Text.{Text}
use Rattle.ep_units.specs.Utf8.{units_of, utf8_of}
use Rattle.ep_units.proofs.Back.{units_of-utf8_of}
use Rattle.ep_pool.specs.Json.{numbered, pair_json, pool_json}
use Rattle.ep_pool.specs.Pool.{same_pair}
use Rattle.ep_pool.specs.Read.{AreEntries, AreTexts, HasNoGap, IsBadAs, IsGap, IsLeast, IsNumber, IsPoolOf, IsText, IsTwice, entry, most_number, next_num, pair_read, small_enough}
use Rattle.ep_pool.specs.declared.from_json.PoolBad.{PoolBad}
use Rattle.ep_pool.specs.declared.from_json.PoolBad.TheVariants.{Shape, Gap, Twice, NoMemory}
use Rattle.ep_pool.specs.declared.from_json.PoolMember.TheVariants.{NextNum, NumToAttrib}
use Rattle.ep_pool.proofs.Gathering.{same_pair_itself}
use Rattle.ep_pool.proofs.Reading.{same_number}

entries_at : (o : Ordering) (k l : List ℕ) (d e : Data) (ms : Members) → IsNumber k → IsSome (pair_read d) → AreEntries (member l e ms) → AreEntries (put k d ms)
    → AreEntries (match_ordering o (member k d (member l e ms)) (member l d ms) (member l e (put k d ms)))
entries_at Less k l d e ms num read all rest = (num, read, all)
entries_at Equal k l d e ms num read all rest = (all.0, read, all.2)
entries_at Greater k l d e ms num read all rest = (all.0, all.1, rest)

entries_put : (k : List ℕ) (d : Data) (ms : Members) → IsNumber k → IsSome (pair_read d) → AreEntries ms → AreEntries (put k d ms)
entries_put k d no_members num read all = (num, read, tt)
entries_put k d (member l e ms) num read all = entries_at (slice_cmp nat_cmp k l) k l d e ms num read all (entries_put k d ms num read all.2)

entries_numbered : (ms : Members) (n : ℕ) (ps : List Pair) → n + length ps ≤ suc most_number → AreEntries ms → AreEntries (numbered ms n ps)
entries_numbered ms n [] few all = all
entries_numbered ms n (p ∷ ps) few all =
    entries_numbered (put (decimal n) (pair_json p) ms) (suc n) ps (omega (arith, few)) (entries_put (decimal n) (pair_json p) ms (n, omega (arith, few), refl) refl all)

apart : (m n : ℕ) → m ≤ most_number → n ≤ most_number → m < n → decimal m ≡ decimal n → ⊥
apart m n small_m small_n lower is = let same = same_number (decimal m) m n small_m small_n refl is in omega (arith, lower, same)

other_way : (m n : ℕ) → m ≤ most_number → n ≤ most_number → m < n → decimal n ≡ decimal m → ⊥
other_way m n small_m small_n lower is = apart m n small_m small_n lower (sym is)

lower_stay : (ms : Members) (q n : ℕ) (ps : List Pair) → n + length ps ≤ suc most_number → q < n → get_member (decimal q) (numbered ms n ps) ≡ get_member (decimal q) ms
lower_stay ms q n [] few lower = refl
lower_stay ms q n (p ∷ ps) few lower =
    lower_stay (put (decimal n) (pair_json p) ms) q (suc n) ps (omega (arith, few)) (omega (arith, lower))
    ∙ get_member-put_other (decimal q) (decimal n) (pair_json p) ms (apart q n (omega (arith, few, lower)) (omega (arith, few)) lower)

numbered_at : (ms : Members) (n j : ℕ) (ps : List Pair) → n + length ps ≤ suc most_number → ((k : ℕ) → n + k ≤ most_number → get_member (decimal (n + k)) ms ≡ None) → n + j ≤ most_number
    → get_member (decimal (n + j)) (numbered ms n ps) ≡ option_map pair_json (slice_get ps j)
numbered_at ms n j [] few none small = none j small
numbered_at ms n zero (p ∷ ps) few none small =
    let same : n + 0 ≡ n = omega arith in
    rw same (lower_stay (put (decimal n) (pair_json p) ms) n (suc n) ps (omega (arith, few)) (omega arith) ∙ get_member-put (decimal n) (pair_json p) ms)
numbered_at ms n (suc j) (p ∷ ps) few none small =
    let same : n + suc j ≡ suc n + j = omega arith in
    rw same (numbered_at (put (decimal n) (pair_json p) ms) (suc n) j ps (omega (arith, few)) (later ms n p none) (omega (arith, small)))
  where
    later : (ms : Members) (n : ℕ) (p : Pair) → ((k : ℕ) → n + k ≤ most_number → get_member (decimal (n + k)) ms ≡ None) → (k : ℕ) → suc n + k ≤ most_number
        → get_member (decimal (suc n + k)) (put (decimal n) (pair_json p) ms) ≡ None
    later ms n p none k small =
        let same : n + suc k ≡ suc n + k = omega arith in
        get_member-put_other (decimal (suc n + k)) (decimal n) (pair_json p) ms (other_way n (suc n + k) (omega (arith, small)) small (omega arith))
        ∙ (ap (λ m. get_member (decimal m) ms) (sym same) ∙ none (suc k) (omega (arith, small)))

text_back : (us : Text) → IsText us → units_of (utf8_of us) ≡ us
text_back us is = units_of-utf8_of us is.0 is.1

pairs_back : (ps : List Pair) (n : ℕ) → AreTexts ps → option_and_then pair_read (option_map pair_json (slice_get ps n)) ≡ slice_get ps n
pairs_back [] n are = refl
pairs_back (p ∷ ps) zero are = λ i. Some (text_back p.0 are.0 i, text_back p.1 are.1 i)
pairs_back (p ∷ ps) (suc n) are = pairs_back ps n are.2

counted : (n : ℕ) → n ≤ most_number → small_enough n ≡ Some n
counted n few = ap (λ b. cond b (Some n) None) (le-leb n most_number few)

small_if : (b : Bool) (m n : ℕ) → nat_le m most_number ≡ b → cond b (Some m) None ≡ Some n → n ≤ most_number
small_if true m n e is = subst (λ k. k ≤ most_number) (same_Some m n is) (leb-true m most_number e)
small_if false m n e is = absurd (none-some n is)

small_number : (o : Option ℕ) (n : ℕ) → option_and_then small_enough o ≡ Some n → n ≤ most_number
small_number None n is = absurd (none-some n is)
small_number (Some m) n is = small_if (nat_le m most_number) m n refl is

-- a pool that is read has few enough pairs
few_pairs : (d : Data) (ps : List Pair) → IsPoolOf d ps → length ps ≤ most_number
few_pairs d ps is = small_number (option_and_then as_u64 (option_and_then as_number (get (codes "nextNum") d))) (length ps) is.next

pub back : (ps : List Pair) → length ps ≤ most_number → AreTexts ps → IsPoolOf (pool_json ps) ps
back ps few are = record {
  next = counted (length ps) few;
  shape = (numbered no_members 0 ps, refl, entries_numbered no_members 0 ps (omega (arith, few)) tt);
  entries = each;
}
  where
    each : (n : ℕ) → n ≤ most_number → entry (pool_json ps) n ≡ slice_get ps n
    each n small =
        let from_none : 0 + n ≡ n = omega arith in
        let found = numbered_at no_members 0 n ps (omega (arith, few)) (λ k h. refl) (omega (arith, small)) in
        let here : get_member (decimal n) (numbered no_members 0 ps) ≡ option_map pair_json (slice_get ps n) = ap (λ m. get_member (decimal m) (numbered no_members 0 ps)) (sym from_none) ∙ found in
        ap (option_and_then pair_read) here ∙ pairs_back ps n are

differ : (b : Bool) → b ≡ not b → ⊥
differ true e = true≢false e
differ false e = true≢false (sym e)

some_within : (ps : List Pair) (n : ℕ) → is_some (slice_get ps n) ≡ nat_lt n (length ps)
some_within [] n = grind arith
some_within (p ∷ ps) zero = grind arith
some_within (p ∷ ps) (suc n) = some_within ps n ∙ grind arith

-- the value of a pool has no gap, and no pair twice
record IsTaken (d : Data) : Type 0 where
  no_gap : HasNoGap d
  none_twice : (n : ℕ) → IsTwice d n → ⊥

taken : (d : Data) (ps : List Pair) → IsDistinct same_pair ps → IsPoolOf d ps → IsTaken d
taken d ps distinct is = record { no_gap = no_gap; none_twice = none }
  where
    no_gap : (n : ℕ) → IsGap d n → ⊥
    no_gap n (small, gap) =
        let counted : nat_lt n (unwrap_or (next_num d) 0) ≡ nat_lt n (length ps) = ap (λ o. nat_lt n (unwrap_or o 0)) is.next in
        let there : is_some (entry d n) ≡ nat_lt n (length ps) = ap is_some (is.entries n small) ∙ some_within ps n in
        differ (nat_lt n (length ps)) (sym counted ∙ (gap ∙ ap not there))

    none : (n : ℕ) → IsTwice d n → ⊥
    none n (k, lower, small, seen, twice) =
        let within : nat_lt n (length ps) ≡ true = sym (some_within ps n) ∙ (ap is_some (sym (is.entries n small)) ∙ seen) in
        let below : n < length ps = grind (arith, within) in
        let same : slice_get ps k ≡ slice_get ps n = sym (is.entries k (omega (arith, lower, small))) ∙ (twice ∙ is.entries n small) in
        let p = get_or ps n ([], []) in
        let one : get_or ps k ([], []) ≡ p = same_Some _ _ (sym (slice_get-get_or ps k ([], []) (omega (arith, lower, below))) ∙ (same ∙ slice_get-get_or ps n ([], []) below)) in
        let differs = apart_from_distinct same_pair ps k n ([], []) distinct lower below in
        true≢false (sym (same_pair_itself p) ∙ (ap (λ q. same_pair q p) (sym one) ∙ differs))

same_lists : (ps qs : List Pair) → length ps ≡ length qs → ((n : ℕ) → n < length ps → slice_get ps n ≡ slice_get qs n) → ps ≡ qs
same_lists [] [] len each = refl
same_lists [] (q ∷ qs) len each = absurd (omega (arith, len))
same_lists (p ∷ ps) [] len each = absurd (omega (arith, len))
same_lists (p ∷ ps) (q ∷ qs) len each =
    let head : p ≡ q = same_Some p q (each 0 (omega arith)) in
    let tail : ps ≡ qs = same_lists ps qs (omega (arith, len)) (λ n h. each (suc n) (omega (arith, h))) in
    λ i. head i ∷ tail i

-- no value is two pools
pub one : (d : Data) (ps qs : List Pair) → IsPoolOf d ps → IsPoolOf d qs → ps ≡ qs
one d ps qs is also =
    let few = few_pairs d ps is in
    same_lists ps qs (same_Some (length ps) (length qs) (sym is.next ∙ also.next)) (λ n h. sym (is.entries n (omega (arith, h, few))) ∙ also.entries n (omega (arith, h, few)))

none_there : {A : Type 0} (o : Option A) → o ≡ None → IsSome o → ⊥
none_there None is there = true≢false (sym there)
none_there (Some x) is there = none-some x (sym is)

same_least : (P : ℕ → Type 0) (m n : ℕ) → IsLeast P m → IsLeast P n → m ≡ n
same_least P m n a b =
    elim (cases_order m n) [
      | inl same ↦ same
      | inr (inl lower) ↦ absurd (b.1 m lower a.0)
      | inr (inr higher) ↦ absurd (a.1 n higher b.0)
    ]

-- no value is bad for two causes
pub one_cause : (d : Data) (e f : PoolBad) → IsBadAs d e → IsBadAs d f → e ≡ f
one_cause d NoMemory f h k = absurd h
one_cause d (Shape NextNum) (Shape NextNum) h k = refl
one_cause d (Shape NextNum) (Shape NumToAttrib) h k = absurd (none_there (next_num d) h k.0)
one_cause d (Shape NextNum) (Gap n) h k = absurd (none_there (next_num d) h k.0.0)
one_cause d (Shape NextNum) (Twice n) h k = absurd (none_there (next_num d) h k.0.0)
one_cause d (Shape NextNum) NoMemory h k = absurd k
one_cause d (Shape NumToAttrib) (Shape NextNum) h k = absurd (none_there (next_num d) k h.0)
one_cause d (Shape NumToAttrib) (Shape NumToAttrib) h k = refl
one_cause d (Shape NumToAttrib) (Gap n) h k = absurd (h.1 k.0.1)
one_cause d (Shape NumToAttrib) (Twice n) h k = absurd (h.1 k.0.1)
one_cause d (Shape NumToAttrib) NoMemory h k = absurd k
one_cause d (Gap m) (Shape NextNum) h k = absurd (none_there (next_num d) k h.0.0)
one_cause d (Gap m) (Shape NumToAttrib) h k = absurd (k.1 h.0.1)
one_cause d (Gap m) (Gap n) h k = ap Gap (same_least (IsGap d) m n h.1 k.1)
one_cause d (Gap m) (Twice n) h k = absurd (k.1 m h.1.0)
one_cause d (Gap m) NoMemory h k = absurd k
one_cause d (Twice m) (Shape NextNum) h k = absurd (none_there (next_num d) k h.0.0)
one_cause d (Twice m) (Shape NumToAttrib) h k = absurd (k.1 h.0.1)
one_cause d (Twice m) (Gap n) h k = absurd (h.1 n k.1.0)
one_cause d (Twice m) (Twice n) h k = ap Twice (same_least (IsTwice d) m n h.2 k.2)
one_cause d (Twice m) NoMemory h k = absurd k

-- no value is a pool and bad
pub either : (d : Data) (ps : List Pair) (e : PoolBad) → IsDistinct same_pair ps → IsPoolOf d ps → IsBadAs d e → ⊥
either d ps (Shape NextNum) distinct is bad = none-some (length ps) (sym bad ∙ is.next)
either d ps (Shape NumToAttrib) distinct is bad = bad.1 is.shape
either d ps (Gap n) distinct is bad = (taken d ps distinct is).no_gap n bad.1.0
either d ps (Twice n) distinct is bad = (taken d ps distinct is).none_twice n bad.2.0
either d ps NoMemory distinct is bad = bad
