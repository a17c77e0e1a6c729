-- A text is read from its UTF-8.
use Rattle.std.proofs.Common.{◌≡◌, ℕ, suc, ◌<◌, ◌&&◌, Bool, true, false, cond, nat_le, nat_lt, List, [], ◌∷◌, get_or, map, Some, None, unwrap_or, refl, arith}
use Rattle.std.specs.Str.{IsUtf8, is_utf8}
use Rattle.std.specs.Char.Utf16.{utf16_chars, utf16_lossy_chars, lone_unit_char, surrogate_pair_char, is_high_surrogate, is_low_surrogate}
use Rattle.std.proofs.lemmas.Bool.{and_from, false_from_ne_true}
use Rattle.std.proofs.lemmas.Str.{IsUtf8-from_is_utf8, is_utf8-from_IsUtf8}
use lib.Utf8.{scalar, scalars}
use Rattle.ep_units.specs.Text.{Text}
use Rattle.ep_units.specs.Utf8.{utf8_of}
use Rattle.ep_fields.specs.Reading.{utf8_in}

-- ---- the UTF-8 of any units is UTF-8

lone_scalar : (u : ℕ) → u < 65536 → scalar (unwrap_or (lone_unit_char u) 0xFFFD) ≡ true
lone_scalar u fits = by (nat_le 0xD800 u && nat_lt u 0xE000) refl
  where
    by : (b : Bool) → (nat_le 0xD800 u && nat_lt u 0xE000) ≡ b → scalar (unwrap_or (cond b None (Some u)) 0xFFFD) ≡ true
    by true e = refl
    by false e = grind (arith, e, fits)

pair_scalar : (u v : ℕ) → (is_high_surrogate u && is_low_surrogate v) ≡ true → scalar (surrogate_pair_char u v) ≡ true
pair_scalar u v e = grind (arith, e)

lossy_scalars : (us : Text) → ((k : ℕ) → get_or us k 0 < 65536) → scalars (utf16_lossy_chars us) ≡ true
unfolding utf16_chars
lossy_scalars [] fits = refl
lossy_scalars (u ∷ []) fits = and_from (scalar (unwrap_or (lone_unit_char u) 0xFFFD)) true (lone_scalar u (fits 0)) refl
lossy_scalars (u ∷ v ∷ us) fits =
    by (is_high_surrogate u && is_low_surrogate v) refl (lossy_scalars us (λ k. fits (suc (suc k)))) (lossy_scalars (v ∷ us) (λ k. fits (suc k)))
  where
    by : (b : Bool) → (is_high_surrogate u && is_low_surrogate v) ≡ b → scalars (utf16_lossy_chars us) ≡ true → scalars (utf16_lossy_chars (v ∷ us)) ≡ true → scalars (map (λ o. unwrap_or o 0xFFFD) (cond b (Some (surrogate_pair_char u v) ∷ utf16_chars us) (lone_unit_char u ∷ utf16_chars (v ∷ us)))) ≡ true
    by true e two one = and_from (scalar (surrogate_pair_char u v)) (scalars (utf16_lossy_chars us)) (pair_scalar u v e) two
    by false e two one = and_from (scalar (unwrap_or (lone_unit_char u) 0xFFFD)) (scalars (utf16_lossy_chars (v ∷ us))) (lone_scalar u (fits 0)) one

pub is_utf8-utf8_of : (us : Text) → ((k : ℕ) → get_or us k 0 < 65536) → is_utf8 (utf8_of us) ≡ true
is_utf8-utf8_of us fits = is_utf8-from_IsUtf8 (utf8_of us) (utf16_lossy_chars us, (lossy_scalars us fits, refl))

-- ---- reading one

pub utf8_is : (bytes : List ℕ) → IsUtf8 bytes → utf8_in bytes ≡ Some bytes
utf8_is bytes is = rw (is_utf8-from_IsUtf8 bytes is) refl

pub utf8_is_none : (bytes : List ℕ) → (IsUtf8 bytes → ⊥) → utf8_in bytes ≡ None
utf8_is_none bytes none = rw (false_from_ne_true (is_utf8 bytes) (λ is. none (IsUtf8-from_is_utf8 bytes is))) refl
