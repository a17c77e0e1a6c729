-- The digits of a number, one step at a time.
use Rattle.std.proofs.Common.{◌≡◌, ℕ, zero, suc, ◌+◌, ◌-◌, ◌/◌, ◌%◌, ◌^◌, ◌<◌, ◌≤◌, Bool, true, false, cond, nat_lt, [], ◌∷◌, ◌++◌, length, take, drop, set, length-set, add-one, lit<, refl, sym, ap, ◌∙◌, arith, append_assoc}
use Rattle.std.proofs.lemmas.Bool.Decides.{nat_tests}
use Rattle.std.proofs.lemmas.List.{drop-set, take_rest}
use Rattle.std.proofs.Math.Nat.{pow-suc, div-lt_iff_lt-mul}
use Rattle.ep_units.specs.Text.{Text}
use Rattle.ep_units.specs.Base36.{digit, digits_in, write36}

enough : (j k n : ℕ) → n < j → n < k → digits_in j n ≡ digits_in k n
enough zero k n h l = absurd (omega arith)
enough (suc j) zero n h l = absurd (omega arith)
enough (suc j) (suc k) n h l = go (λ s. enough j k (n / 36) (omega arith) (omega arith)) (nat_lt n 36) refl
  where
    go : (36 ≤ n → digits_in j (n / 36) ≡ digits_in k (n / 36)) → (b : Bool) → nat_lt n 36 ≡ b → cond b (digit n ∷ []) (digits_in j (n / 36) ++ digit (n % 36) ∷ []) ≡ cond b (digit n ∷ []) (digits_in k (n / 36) ++ digit (n % 36) ∷ [])
    go again true e = refl
    go again false e = let l : 36 ≤ n = grind (arith, nat_tests) in ap (λ ds. ds ++ digit (n % 36) ∷ []) (again l)

pub write36_small : (n : ℕ) → n < 36 → write36 n ≡ digit n ∷ []
unfolding write36
write36_small n h = let t : nat_lt n 36 ≡ true = grind (arith, nat_tests) in ap (λ b. cond b (digit n ∷ []) (digits_in n (n / 36) ++ digit (n % 36) ∷ [])) t

pub write36_large : (n : ℕ) → 36 ≤ n → write36 n ≡ write36 (n / 36) ++ digit (n % 36) ∷ []
unfolding write36
write36_large n h =
    let t : nat_lt n 36 ≡ false = grind (arith, nat_tests) in
    ap (λ b. cond b (digit n ∷ []) (digits_in n (n / 36) ++ digit (n % 36) ∷ [])) t
    ∙ ap (λ ds. ds ++ digit (n % 36) ∷ []) (enough n (suc (n / 36)) (n / 36) (omega arith) (omega arith))

-- a number of more than one digit has a place before its last one
pub has_room : (n at : ℕ) → 36 ≤ n → n < 36 ^ (at + 1) → 0 < at
has_room n zero h l = absurd (omega arith)
has_room n (suc at) h l = omega arith

pub one_digit_less : (n at : ℕ) → n < 36 ^ (at + 1) → 0 < at → n / 36 < 36 ^ (at - 1 + 1)
one_digit_less n at l h =
    let before : at - 1 + 1 ≡ at = omega arith in
    let below = rw (add-one at, pow-suc 36 at) at l in
    rw before ((div-lt_iff_lt-mul {k = 36} {x = n} {y = 36 ^ at} (lit< tt)).1 below)

-- the lowest digit of what is left is written before the digits that are there
pub digit_before : (n at d : ℕ) (digits all : Text) → 36 ≤ n → 0 < at → at < length digits → d ≡ digit (n % 36)
    → write36 n ++ drop (at + 1) digits ≡ all → write36 (n / 36) ++ drop (at - 1 + 1) (set digits at d) ≡ all
digit_before n at d digits all h room l is all_is =
    let before : at - 1 + 1 ≡ at = omega arith in
    rw (before, drop-set digits at d l, is)
    (sym (append_assoc (write36 (n / 36)) (digit (n % 36) ∷ []) (drop (at + 1) digits)) ∙ ap (λ ds. ds ++ drop (at + 1) digits) (sym (write36_large n h)) ∙ all_is)

-- the highest digit completes the number
pub last_digit : (n at d size : ℕ) (digits all : Text) → n < 36 → at < length digits → length digits ≡ size → d ≡ digit n
    → write36 n ++ drop (at + 1) digits ≡ all → take (size - at) (drop at (set digits at d)) ≡ all
last_digit n at d size digits all h l size_is is all_is =
    let same : length (set digits at d) ≡ size = length-set digits at d ∙ size_is in
    let whole = rw same at (take_rest (set digits at d) at) in
    whole ∙ rw (drop-set digits at d l, is) (ap (λ ds. ds ++ drop (at + 1) digits) (sym (write36_small n h)) ∙ all_is)
