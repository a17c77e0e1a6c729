-- How device calls count down to a stop.
use Rattle.std.proofs.Common.{◌≡◌, ◌∙◌, ap, ⊎_elim, ℕ, ◌+◌, ◌<◌, ◌≤◌, refl, Bool, true, Option, Some, None, arith}
use Rattle.std.proofs.lemmas.Bool.{cases_lt}
use Rattle.ep_outside.specs.Outside.{HasRisen}
use Rattle.std.specs.Prelude.{Result, Ok, Err, IsOk, IsErr, OnOk}
use Rattle.ep_outside.specs.Disk.{Stops, StopsAlone, KeepsMarks}
use Rattle.ep_outside.specs.declared.source.Failed.{Failed}

-- where no call is left a call fails
pub none_left : {T : Type 0} (left now : Option ℕ) (r : Result T Failed) → left ≡ Some 0 → Stops left now r → IsErr r
none_left None now r is stops = absurd (cc)
none_left (Some n) now r is stops = let zero_left : n ≡ 0 = cc in (stops.0 zero_left).1

-- where some are left it takes one
pub one_less : {T : Type 0} (left now : Option ℕ) (r : Result T Failed) (k : ℕ) → left ≡ Some (k + 1) → Stops left now r → now ≡ Some k
one_less None now r k is stops = absurd (cc)
one_less (Some n) now r k is stops = let some_left : n ≡ k + 1 = cc in stops.1 k some_left

-- and of a disk that fails in a stop alone it goes through
pub goes_through : {T : Type 0} (was is : Bool) (left : Option ℕ) (before now : ℕ) (r : Result T Failed) (k : ℕ) → was ≡ true → left ≡ Some (k + 1) → StopsAlone was is left before now r → IsOk r
goes_through was is left before now (Ok x) k alone some stops = refl
goes_through was is left before now (Err e) k alone some stops =
    let last : left ≡ Some 0 = stops.fails alone in
    let zero_left : k + 1 ≡ 0 = cc in
    absurd (omega arith)

pub OnOk-of : {T E : Type 0} (r : Result T E) (P : Type 0) → P → OnOk r P
OnOk-of (Ok x) P p = p
OnOk-of (Err e) P p = tt

-- two calls, of which the first went through
pub stops_within_two : {T : Type 0} (left mid now : Option ℕ) (first second : Result T Failed) (k : ℕ) → k < 2 → left ≡ Some k → Stops left mid first → IsOk first → Stops mid now second → IsErr second
stops_within_two left mid now (Err e) second k few is before ok after = absurd (cc)
stops_within_two left mid now (Ok x) second k few is before ok after = ⊎_elim
    (λ (none : k < 1). let zero_left : k ≡ 0 = omega arith in let failed = none_left left mid (Ok x) (is ∙ ap (λ (n : ℕ). Some n) zero_left) before in absurd (cc))
    (λ (some : 1 ≤ k). let one : k ≡ 0 + 1 = omega arith in none_left mid now second (one_less left mid (Ok x) 0 (is ∙ ap (λ (n : ℕ). Some n) one) before) after)
    (cases_lt k 1)

pub two_less : {T : Type 0} (left mid now : Option ℕ) (first second : Result T Failed) (k : ℕ) → left ≡ Some (k + 2) → Stops left mid first → Stops mid now second → now ≡ Some k
two_less left mid now first second k is before after =
    let more : k + 2 ≡ k + 1 + 1 = omega arith in
    one_less mid now second k (one_less left mid first (k + 1) (is ∙ ap (λ (n : ℕ). Some n) more) before) after

-- marks that stay over one run and then over another
pub marks_on : {D : Type 0} (is_steady stops_alone : D → Bool) (left : D → Option ℕ) (old mid new : D) → KeepsMarks is_steady stops_alone left old mid → KeepsMarks is_steady stops_alone left mid new → KeepsMarks is_steady stops_alone left old new
marks_on is_steady stops_alone left old mid new first second = record {
  steady = second.steady ∙ first.steady;
  alone = second.alone ∙ first.alone;
  unstopped = λ none. second.unstopped (first.unstopped none);
}

-- a disk that never fails, and whose count rose, is no such disk
pub steady_never : (before now : ℕ) → HasRisen before now → now ≡ 0 → ⊥
steady_never before now rose none = omega arith
