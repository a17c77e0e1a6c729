-- A session is read of its text.
use Rattle.std.proofs.Common.{◌≡◌, ℕ, zero, suc, ◌+◌, ◌<◌, ◌^◌, ◌==◌, Bool, true, false, if◌then◌else◌, nat_lt, List, [], ◌∷◌, ◌++◌, length, get_or, take, drop, decimal, Some, refl, ap, ap₂, ◌∙◌, subst, arith, length-append}
use Rattle.std.specs.List.{position_or_len, before_first, after_first}
use Rattle.std.specs.Str.Parse.{AllDigits}
use Rattle.std.specs.Char.{digit_value}
use Rattle.std.proofs.lemmas.Fmt.{decimal_is_IsNumeral}
use Rattle.std.proofs.lemmas.List.Sums.{position_or_len_is}
use Rattle.std.proofs.Math.Seq.{take-append_seam, drop-append-add, get_or-append_seam}
use Rattle.std.proofs.Math.ListN.{get_or-append}
use Rattle.std.proofs.lemmas.Bool.Decides.{nat_tests}
use Rattle.ep_units.specs.declared.session.Session.{Session}
use Rattle.ep_wire_words.specs.Sessions.{is_dot, is_nobody, number_in, numbered, session_in, session_text, somebody}
use Rattle.ep_wire_words.proofs.Numerals.{number_is}

not_dot : (c : ℕ) → digit_value c < 10 → is_dot c ≡ false
not_dot c digit = by (c == 46) refl
  where
    by : (b : Bool) → (c == 46) ≡ b → b ≡ false
    by false e = refl
    by true e = let is : c ≡ 46 = grind (arith, nat_tests, e) in absurd (let h : digit_value 46 < 10 = subst (λ x. digit_value x < 10) is digit in omega (arith, h))

no_dots : (ds : List ℕ) → AllDigits 10 ds → (k : ℕ) → k < length ds → is_dot (get_or ds k 0) ≡ false
no_dots [] all k within = absurd (omega (arith, within))
no_dots (d ∷ ds) all zero within = not_dot d all.0
no_dots (d ∷ ds) all (suc k) within = no_dots ds all.1 k (omega (arith, within))

dot_place : (ds rest : List ℕ) → AllDigits 10 ds → position_or_len is_dot (ds ++ 46 ∷ rest) ≡ length ds
dot_place ds rest all =
    position_or_len_is is_dot (ds ++ 46 ∷ rest) (length ds) 0 (omega (arith, length-append ds (46 ∷ rest)))
    (λ k within. ap is_dot (get_or-append ds (46 ∷ rest) 0 k within) ∙ no_dots ds all k within) (λ within. ap is_dot (get_or-append_seam ds 46 rest 0))

before : (ds rest : List ℕ) → AllDigits 10 ds → before_first is_dot (ds ++ 46 ∷ rest) ≡ ds
before ds rest all = ap (λ n. take n (ds ++ 46 ∷ rest)) (dot_place ds rest all) ∙ take-append_seam ds (46 ∷ rest)

after : (ds rest : List ℕ) → AllDigits 10 ds → after_first is_dot (ds ++ 46 ∷ rest) ≡ rest
after ds rest all = ap (λ n. drop (n + 1) (ds ++ 46 ∷ rest)) (dot_place ds rest all) ∙ drop-append-add ds (46 ∷ rest) 1

within : (ds rest : List ℕ) → AllDigits 10 ds → nat_lt (position_or_len is_dot (ds ++ 46 ∷ rest)) (length (ds ++ 46 ∷ rest)) ≡ true
within ds rest all =
    let place = dot_place ds rest all in
    let long = length-append ds (46 ∷ rest) in
    let less : position_or_len is_dot (ds ++ 46 ∷ rest) < length (ds ++ 46 ∷ rest) = omega (arith, place, long) in
    grind (arith, less)

cut : (ds cs : List ℕ) (e c : ℕ) → AllDigits 10 ds → 0 < length ds → number_in ds ≡ Some e → number_in cs ≡ Some c → session_in (ds ++ 46 ∷ cs) ≡ somebody (record { epoch = e; count = c })
cut [] cs e c all some is also = absurd (omega (arith, some))
cut (d ∷ ds) cs e c all some is also =
    rw (within (d ∷ ds) cs all) (ap₂ numbered (ap number_in (before (d ∷ ds) cs all) ∙ is) (ap number_in (after (d ∷ ds) cs all) ∙ also))

same_nobody : (s : Session) → is_nobody s ≡ true → record { epoch = 0; count = 0 } ≡ s
same_nobody s e =
    let epoch : 0 ≡ s.epoch = grind (arith, nat_tests, e) in
    let count : 0 ≡ s.count = grind (arith, nat_tests, e) in
    λ i. record { epoch = epoch i; count = count i }

pub session_again : (s : Session) → s.epoch < 2 ^ 64 → s.count < 2 ^ 64 → session_in (session_text s) ≡ Some s
session_again s small few = by (is_nobody s) refl
  where
    by : (b : Bool) → is_nobody s ≡ b → session_in (if b then [] else decimal s.epoch ++ 46 ∷ decimal s.count) ≡ Some s
    by true e = ap Some (same_nobody s e)
    by false e =
        let digits = decimal_is_IsNumeral s.epoch small in
        cut (decimal s.epoch) (decimal s.count) s.epoch s.count digits.0.1 digits.0.0 (number_is (decimal s.epoch) s.epoch small refl) (number_is (decimal s.count) s.count few refl)
        ∙ rw e
