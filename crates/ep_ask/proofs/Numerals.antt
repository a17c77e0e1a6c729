-- What `parse` gives of digits.
use Rattle.std.proofs.Common.{◌≡◌, ◌≢◌, ℕ, ◌^◌, ◌<◌, Bool, true, false, List, [], ◌∷◌, length, get_or, refl, sym, ◌∙◌, ap, arith, Some, None, Result, Ok, Err, nat_lt}
use Rattle.std.specs.Result.{OkIff, result_ok}
use Rattle.std.specs.Str.{all_ascii_digits}
use Rattle.std.specs.Str.Parse.{digits_value, ParsesUnsigned}
use Rattle.std.proofs.lemmas.Bool.Decides.{nat_tests}
use Rattle.std.proofs.lemmas.Str.Parse.{IsNumeralModel, numerals_by_value, tells_all_ascii_digits, parse_plain}
use Rattle.ep_ask.specs.Parameters.{is_numeral, number_in}

own : IsNumeralModel (λ ds. all_ascii_digits ds ≡ true) (digits_value 10)
own = numerals_by_value _ tells_all_ascii_digits

is_numeral-some : (bs : List ℕ) → 0 < length bs → all_ascii_digits bs ≡ true → is_numeral bs ≡ true
is_numeral-some [] some all = absurd (omega arith)
is_numeral-some (b ∷ bs) some all = all

is_numeral_parts : (bs : List ℕ) → is_numeral bs ≡ true → (all_ascii_digits bs ≡ true) × (0 < length bs)
is_numeral_parts [] h = cc
is_numeral_parts (b ∷ bs) h = (h, omega arith)

number_in-Some : (bs : List ℕ) → is_numeral bs ≡ true → digits_value 10 bs < 2 ^ 64 → number_in bs ≡ Some (digits_value 10 bs)
number_in-Some bs all below = let h : nat_lt (digits_value 10 bs) (2 ^ 64) ≡ true = grind (arith, nat_tests) in rw (all, h)

number_in-None : (bs : List ℕ) (t u : Bool) → is_numeral bs ≡ t → nat_lt (digits_value 10 bs) (2 ^ 64) ≡ u → ¬ ((is_numeral bs ≡ true) × (digits_value 10 bs < 2 ^ 64))
    → None ≡ number_in bs
number_in-None bs false u et eu other = rw et
number_in-None bs true false et eu other = rw (et, eu)
number_in-None bs true true et eu other = absurd (other (et, grind (arith, nat_tests)))

ok_number : {E : Type 0} (bs : List ℕ) (r : Result ℕ E) → OkIff r ((all_ascii_digits bs ≡ true) × (0 < length bs) × (digits_value 10 bs < 2 ^ 64)) (digits_value 10 bs)
    → result_ok r ≡ number_in bs
ok_number bs (Ok n) h = ap Some h.1 ∙ sym (number_in-Some bs (is_numeral-some bs h.0.1 h.0.0) h.0.2)
ok_number bs (Err e) h = number_in-None bs _ _ refl refl (λ k. let p = is_numeral_parts bs k.0 in h (p.0, p.1, k.1))

-- what `parse` gives of a text that doesn't begin with a plus
pub result_ok-parse : {E : Type 0} (bs : List ℕ) (r : Result ℕ E) → ParsesUnsigned 64 10 bs r → get_or bs 0 0 ≢ 43 → result_ok r ≡ number_in bs
result_ok-parse bs r h other = ok_number bs r (parse_plain own 64 bs r h other)
