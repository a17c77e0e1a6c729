-- Numbers in their shortest digits.
use Rattle.std.proofs.Common.{◌≡◌, ℕ, ◌<◌, ◌^◌, ◌&&◌, Bool, true, false, List, decimal, Some, None, if◌then◌else◌, nat_lt, refl, ap, ◌∙◌, arith}
use Rattle.std.specs.Str.{bytes_eq}
use Rattle.std.specs.Str.Parse.{digits_value}
use Rattle.std.proofs.lemmas.Fmt.{decimal_is_IsNumeral}
use Rattle.std.proofs.lemmas.Slice.Eq.{bytes_eq-Decides}
use Rattle.ep_wire_words.specs.Sessions.{number_in}

small_enough : (n : ℕ) → n < 2 ^ 64 → nat_lt n (2 ^ 64) ≡ true
small_enough n h = grind (arith, h)

number_at : (text : List ℕ) (n : ℕ) → n < 2 ^ 64 → digits_value 10 text ≡ n → bytes_eq text (decimal n) ≡ true → number_in text ≡ Some n
number_at text n small value same = rw (value, same, small_enough n small)

pub number_is : (text : List ℕ) (n : ℕ) → n < 2 ^ 64 → text ≡ decimal n → number_in text ≡ Some n
number_is text n small is =
    number_at text n small (ap (digits_value 10) is ∙ (decimal_is_IsNumeral n small).1) ((bytes_eq-Decides text (decimal n)).1 is)

small_is : (n : ℕ) → nat_lt n (2 ^ 64) ≡ true → n < 2 ^ 64
small_is n h = grind (arith, h)

pub number_not : (text : List ℕ) → ((n : ℕ) → n < 2 ^ 64 → text ≡ decimal n → ⊥) → number_in text ≡ None
number_not text none = by (nat_lt value (2 ^ 64)) (bytes_eq text (decimal value)) refl refl
  where
    value : ℕ
    value = digits_value 10 text

    by : (small same : Bool) → nat_lt value (2 ^ 64) ≡ small → bytes_eq text (decimal value) ≡ same → (if small && same then Some value else None) ≡ None
    by true true s e = absurd (none value (small_is value s) ((bytes_eq-Decides text (decimal value)).0 e))
    by true false s e = refl
    by false same s e = refl
