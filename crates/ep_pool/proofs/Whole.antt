-- What is read of `numToAttrib` and `nextNum`, said of the whole value.
use Rattle.std.proofs.Common.{◌≡◌, ℕ, ◌<◌, ◌≤◌, suc, List, Bool, true, false, true≢false, not, nat_lt, Option, Some, None, is_some, unwrap_or, option_and_then, IsSome, IsSomeAnd, codes, refl, sym, ap, ap₂, subst, ◌∙◌, ◌⊎◌, inl, inr, Result, Ok, Err, IfErr, arith}
use Rattle.serde_json.specs.Data.{Data, Members}
use Rattle.serde_json.specs.Find.{as_object, get}
use Rattle.ep_pool.specs.Read.{AreEntries, HasEntries, HasNoGap, IsBadAs, IsGap, IsLeast, IsTwice, entry, entry_in, most_number, next_num}
use Rattle.ep_attr.specs.AttrMap.{Pair}
use Rattle.ep_pool.specs.declared.from_json.PoolBad.{PoolBad}
use Rattle.ep_pool.specs.declared.from_json.PoolBad.TheVariants.{Twice, NoMemory}

members_there : (o : Option Members) → IsSomeAnd o AreEntries → (ms : Members) × (o ≡ Some ms) × AreEntries ms
members_there None h = absurd h
members_there (Some ms) h = (ms, refl, h)

differ : (b : Bool) → b ≡ not b → ⊥
differ true e = true≢false e
differ false e = true≢false (sym e)

module _ (d a : Data) (next : ℕ) (at : get (codes "numToAttrib") d ≡ Some a) where
  entry_is : (n : ℕ) → entry d n ≡ entry_in a n
  entry_is n = ap (option_and_then (λ x. entry_in x n)) at

  pub has_entries : IsSomeAnd (as_object a) AreEntries → HasEntries d
  has_entries all =
      let there = members_there (as_object a) all in
      (there.0, ap (option_and_then as_object) at ∙ there.1, there.2)

  pub no_gap : next_num d ≡ Some next → ((n : ℕ) → n ≤ most_number → nat_lt n next ≡ is_some (entry_in a n)) → HasNoGap d
  no_gap counted full n (small, gap) =
      let seen : nat_lt n next ≡ not (is_some (entry_in a n)) = sym (ap (λ o. nat_lt n (unwrap_or o 0)) counted) ∙ (gap ∙ ap (λ o. not (is_some o)) (entry_is n)) in
      differ (is_some (entry_in a n)) (sym (full n small) ∙ seen)

  pub least_twice : (n : ℕ) → n ≤ most_number → IsSome (entry_in a n) → IsLeast (λ m. (k : ℕ) × (k < m) × (entry_in a k ≡ entry_in a m)) n → IsLeast (IsTwice d) n
  least_twice n small there least = (
    (least.0.0, least.0.1, small, ap is_some (entry_is n) ∙ there, entry_is least.0.0 ∙ (least.0.2 ∙ sym (entry_is n))),
    λ k lower twice. least.1 k lower (twice.0, twice.1, sym (entry_is twice.0) ∙ (twice.4 ∙ entry_is k)),
  )

  gap_is : next_num d ≡ Some next → (n : ℕ) → (nat_lt n (unwrap_or (next_num d) 0) ≡ not (is_some (entry d n))) ≡ (nat_lt n next ≡ not (is_some (entry_in a n)))
  gap_is counted n = ap₂ (λ (o : Option ℕ) (e : Option Pair). nat_lt n (unwrap_or o 0) ≡ not (is_some e)) counted (entry_is n)

  pub least_gap : next_num d ≡ Some next → (n : ℕ) → IsLeast (λ m. (m ≤ most_number) × (nat_lt m next ≡ not (is_some (entry_in a m)))) n → IsLeast (IsGap d) n
  least_gap counted n least = (
    (least.0.0, subst (λ T. T) (sym (gap_is counted n)) least.0.1),
    λ k lower gap. least.1 k lower (gap.0, subst (λ T. T) (gap_is counted k) gap.1),
  )

-- where all numbers below `next` have entries, and no others
pub there_below : (E : ℕ → Option (List ℕ × List ℕ)) (next : ℕ) → next ≤ suc most_number → ((n : ℕ) → n ≤ most_number → nat_lt n next ≡ is_some (E n)) → (k : ℕ) → k < next → IsSome (E k)
there_below E next few full k below = let f = full k (omega (arith, few, below)) in sym f ∙ grind (arith, below)

-- what gathering refuses, the value is bad as
pub gathered_bad : {T : Type 0} (d a : Data) (next : ℕ) (at : get (codes "numToAttrib") d ≡ Some a) → next_num d ≡ Some next → next ≤ most_number → IsSomeAnd (as_object a) AreEntries
    → ((n : ℕ) → n ≤ most_number → nat_lt n next ≡ is_some (entry_in a n))
    → (r : Result T PoolBad)
    → IfErr r (λ e. (e ≡ NoMemory) ⊎ ((n : ℕ) × (e ≡ Twice n) × (n < next) × IsLeast (λ m. (k : ℕ) × (k < m) × (entry_in a k ≡ entry_in a m)) n))
    → IfErr r (λ e. (e ≡ NoMemory) ⊎ IsBadAs d e)
gathered_bad d a next at counted small all full (Ok pool) bad = tt
gathered_bad d a next at counted small all full (Err e) (inl none) = inl none
gathered_bad d a next at counted small all full (Err e) (inr (n, is, below, least)) =
    let twice : IsBadAs d (Twice n) = (
      (ap is_some counted, has_entries d a next at all),
      no_gap d a next at counted full,
      least_twice d a next at n (omega arith) (there_below (entry_in a) next (omega arith) full n below) least,
    ) in
    inr (subst (IsBadAs d) (sym is) twice)
