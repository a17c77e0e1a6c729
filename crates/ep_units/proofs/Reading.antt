-- What digits spell, and how what is written is read back.
use Rattle.std.proofs.Common.{◌≡◌, ℕ, zero, suc, ◌+◌, ◌*◌, ◌/◌, ◌%◌, ◌<◌, ◌≤◌, Bool, true, false, cond, nat_lt, ◌==◌, [], ◌∷◌, ◌++◌, length, get_or, take, drop, fold, Some, None, refl, sym, ap, ◌∙◌, arith, length-append, append_assoc, eq-eqb, subst}
use Rattle.std.proofs.Math.Numerals.{one-add}
use Rattle.std.proofs.lemmas.Bool.Decides.{nat_tests}
use Rattle.std.proofs.lemmas.List.{drop_at, take_at, take-append-drop}
use Rattle.std.proofs.lemmas.List.Folds.{length-prefix_len, prefix_len-append}
use Rattle.std.proofs.lemmas.List.Sums.{fold-append, fold_more, fold_push}
use Rattle.std.specs.List.{prefix_len}
use Rattle.ep_units.specs.Text.{Text}
use Rattle.ep_units.specs.Base36.{digit, digits_in, write36, is_digit, digit_value, value36, most_read, number_read, digits_of, behind, digits_at, number_of, read36}

abbrev more : ℕ → ℕ → ℕ
more value u = value * 36 + digit_value u

value36_more : (ds : Text) (i : ℕ) → i < length ds → value36 (take (i + 1) ds) ≡ value36 (take i ds) * 36 + digit_value (get_or ds i 0)
value36_more ds i h = fold_more more 0 ds i 0 h

no_less : (value : ℕ) (ds : Text) → value ≤ fold more value ds
no_less value [] = omega arith
no_less value (u ∷ us) = omega (arith, no_less (more value u) us)

-- what more digits spell is no smaller
value36_no_less : (ds : Text) (i : ℕ) → value36 (take i ds) ≤ value36 ds
value36_no_less ds i =
    let whole : value36 ds ≡ fold more (value36 (take i ds)) (drop i ds) = ap value36 (sym (take-append-drop i ds)) ∙ fold-append more 0 (take i ds) (drop i ds) in
    rw whole (no_less (value36 (take i ds)) (drop i ds))

-- a digit that brings the number above the limit decides
pub above_limit : (ds : Text) (i value d : ℕ) → i < length ds → value ≡ value36 (take i ds) → d ≡ digit_value (get_or ds i 0) → most_read < value * 36 + d
    → None ≡ number_read ds
above_limit ds i value d h value_is d_is large =
    let grown = value36_no_less ds (i + 1) in
    let above : most_read < value36 ds = omega (arith, value36_more ds i h) in
    let test : nat_lt most_read (value36 ds) ≡ true = grind (arith, nat_tests) in
    rw test refl

is_digit-digit : (d : ℕ) → d < 36 → is_digit (digit d) ≡ true
is_digit-digit d h = grind (arith, nat_tests)

digit_value-digit : (d : ℕ) → d < 36 → digit_value (digit d) ≡ d
digit_value-digit d h = grind (arith, nat_tests)

-- a run of digits goes on
run_on : (xs ys : Text) → prefix_len is_digit xs ≡ length xs → prefix_len is_digit (xs ++ ys) ≡ length xs + prefix_len is_digit ys
run_on xs ys h = prefix_len-append is_digit xs ys ∙ ap (λ b. cond b (length xs + prefix_len is_digit ys) (prefix_len is_digit xs)) (eq-eqb _ _ h)

-- digits that spell a number
record Spells (n : ℕ) (ds : Text) : Type 0 where
  all_digits : prefix_len is_digit ds ≡ length ds
  value : value36 ds ≡ n
  some_digit : 0 < length ds

one_digit : (d : ℕ) → d < 36 → Spells d (digit d ∷ [])
one_digit d h = record { all_digits = rw (is_digit-digit d h) refl; value = ap (λ v. 0 * 36 + v) (digit_value-digit d h) ∙ omega arith; some_digit = omega arith }

digit_more : (n d : ℕ) (ds : Text) → d < 36 → Spells n ds → Spells (n * 36 + d) (ds ++ digit d ∷ [])
digit_more n d ds h s = record {
  all_digits = run_on ds (digit d ∷ []) s.all_digits ∙ ap (λ k. length ds + k) (one_digit d h).all_digits ∙ sym (length-append ds (digit d ∷ []));
  value = fold_push more 0 ds (digit d) ∙ rw (s.value, digit_value-digit d h) refl;
  some_digit = omega (arith, length-append ds (digit d ∷ []), s.some_digit);
}

digits_in-spells : (k n : ℕ) → n < k → Spells n (digits_in k n)
digits_in-spells zero n h = absurd (omega arith)
digits_in-spells (suc k) n h = go (λ (large : 36 ≤ n). digits_in-spells k (n / 36) (omega arith)) (nat_lt n 36) refl
  where
    go : (36 ≤ n → Spells (n / 36) (digits_in k (n / 36))) → (b : Bool) → nat_lt n 36 ≡ b → Spells n (cond b (digit n ∷ []) (digits_in k (n / 36) ++ digit (n % 36) ∷ []))
    go fewer true e = one_digit n (grind (arith, nat_tests))
    go fewer false e =
        let large : 36 ≤ n = grind (arith, nat_tests) in
        let same : n / 36 * 36 + n % 36 ≡ n = omega arith in
        subst (λ m. Spells m (digits_in k (n / 36) ++ digit (n % 36) ∷ [])) same (digit_more (n / 36) (n % 36) (digits_in k (n / 36)) (omega arith) (fewer large))

write36-spells : (n : ℕ) → Spells n (write36 n)
unfolding write36
write36-spells n = digits_in-spells (suc n) n (omega arith)

-- the run of digits at the front, by its length
pub digits_of-prefix : (us : Text) → take (prefix_len is_digit us) us ≡ digits_of us
digits_of-prefix [] = refl
digits_of-prefix (u ∷ us) =
    elim (is_digit u) as (λ b. take (cond b (1 + prefix_len is_digit us) 0) (u ∷ us) ≡ cond b (u ∷ digits_of us) []) [
      | true ↦ rw one-add (ap (λ ds. u ∷ ds) (digits_of-prefix us))
      | false ↦ refl
    ]

pub behind-prefix : (us : Text) → drop (prefix_len is_digit us) us ≡ behind us
behind-prefix [] = refl
behind-prefix (u ∷ us) =
    elim (is_digit u) as (λ b. drop (cond b (1 + prefix_len is_digit us) 0) (u ∷ us) ≡ cond b (behind us) (u ∷ us)) [
      | true ↦ rw one-add (behind-prefix us)
      | false ↦ refl
    ]

length-digits_of : (us : Text) → length (digits_of us) ≡ prefix_len is_digit us
length-digits_of us = ap length (sym (digits_of-prefix us)) ∙ length-prefix_len is_digit us

-- the run of digits ends where no digit follows
run_ends : (n : ℕ) (ds behind : Text) → Spells n ds → digits_at behind 0 ≡ [] → digits_of (ds ++ behind) ≡ ds
run_ends n ds behind s none =
    let no_more : prefix_len is_digit behind ≡ 0 = sym (length-digits_of behind) ∙ ap length none in
    let long : prefix_len is_digit (ds ++ behind) ≡ length ds = run_on ds behind s.all_digits ∙ omega arith in
    sym (digits_of-prefix (ds ++ behind)) ∙ ap (λ k. take k (ds ++ behind)) long ∙ take_at ds behind (length ds) refl

number_of-spells : (n at : ℕ) (ds : Text) → Spells n ds → n ≤ most_read → number_of ds at ≡ Some (n, at + length ds)
number_of-spells n at ds s h =
    let some : (length ds == 0) ≡ false = grind (arith, nat_tests, s.some_digit) in
    let small : nat_lt most_read n ≡ false = grind (arith, nat_tests) in
    rw (s.value, some, small) refl

pub read36-write36 : (before behind : Text) (n : ℕ) → n ≤ most_read → digits_at behind 0 ≡ [] → read36 (before ++ write36 n ++ behind) (length before) ≡ Some (n, length before + length (write36 n))
unfolding read36
read36-write36 before behind n h none =
    let spells = write36-spells n in
    let run : digits_at (before ++ write36 n ++ behind) (length before) ≡ write36 n =
    rw append_assoc (ap digits_of (drop_at before (write36 n ++ behind) (length before) refl)) ∙ run_ends n (write36 n) behind spells none in
    ap (λ ds. number_of ds (length before)) run ∙ number_of-spells n (length before) (write36 n) spells h
