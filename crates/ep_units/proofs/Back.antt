-- A well-formed text is the units of its UTF-8.
use Rattle.std.proofs.Common.{◌≡◌, ℕ, suc, ◌+◌, ◌-◌, ◌*◌, ◌/◌, ◌%◌, ◌<◌, ◌≤◌, Bool, true, false, not, ◌&&◌, List, [], ◌∷◌, ◌++◌, get_or, map, Some, unwrap_or, ◌⊎◌, inl, inr, ⊎_elim, refl, ap, ◌∙◌, arith}
use Rattle.std.proofs.lemmas.Bool.{and_parts, and_from, cases_lt, both_ways, not-true, lt-ltb, le-ltb, le-leb, leb-true, ltb-true}
use Rattle.std.proofs.lemmas.Str.{chars-encodes, scalars-chars, encodes-chars}
use Rattle.std.proofs.str.Utf16.{IsPair, utf16_chars-nil, utf16_chars_lone, utf16_chars_pair, lone_unit_char_low, lone_unit_char_high, one_unit, two_units, pair_units}
use Rattle.std.specs.List.{flat_map}
use Rattle.std.specs.Str.{IsUtf8, chars, encode_utf8_all}
use Rattle.std.specs.Char.Escape.{encode_utf16}
use Rattle.std.specs.Char.Utf16.{utf16_lossy_chars, lone_unit_char, surrogate_pair_char}
use lib.Utf8.{scalar, scalars, scalar_cases, low_scalar}
use Rattle.ep_units.specs.Text.{Text, is_high, is_low, is_paired, is_well_formed}
use Rattle.ep_units.specs.Utf8.{units_of, utf8_of}
use Rattle.ep_units.proofs.Pairing.{high_is, high_above, low_is}

-- a unit that is no half is below the halves or above them
outside : (u : ℕ) → is_high u ≡ false → is_low u ≡ false → (u < 55296) ⊎ (57344 ≤ u)
outside u high low = below (cases_lt u 55296) (cases_lt u 57344) (cases_lt u 56320)
  where
    below : (u < 55296) ⊎ (55296 ≤ u) → (u < 57344) ⊎ (57344 ≤ u) → (u < 56320) ⊎ (56320 ≤ u) → (u < 55296) ⊎ (57344 ≤ u)
    below (inl h) b c = inl h
    below (inr h) (inr k) c = inr k
    below (inr h) (inl k) (inl m) = absurd (both_ways _ high (high_is u h m))
    below (inr h) (inl k) (inr m) = absurd (both_ways _ low (low_is u m k))

scalar_above : (c : ℕ) → 57344 ≤ c → c < 1114112 → scalar c ≡ true
scalar_above c from below = rw (le-ltb c 55296 (omega arith), le-leb 57344 c from, lt-ltb c 1114112 below) refl

-- a unit that is no half is read as itself
lossy_plain : (u : ℕ) (us : Text) → (u < 55296) ⊎ (57344 ≤ u) → utf16_lossy_chars (u ∷ us) ≡ u ∷ utf16_lossy_chars us
lossy_plain u us out =
    let apart = λ (pair : IsPair u (get_or us 0 0)). ⊎_elim (λ (below : u < 55296). absurd (omega arith)) (λ (above : 57344 ≤ u). absurd (omega arith)) out in
    let alone : lone_unit_char u ≡ Some u = ⊎_elim (lone_unit_char_low u) (lone_unit_char_high u) out in
    ap (map (λ o. unwrap_or o 0xFFFD)) (utf16_chars_lone u us apart) ∙ ap (λ o. unwrap_or o 0xFFFD ∷ utf16_lossy_chars us) alone

-- a pair is read as its character
lossy_pair : (u v : ℕ) (us : Text) → IsPair u v → utf16_lossy_chars (u ∷ v ∷ us) ≡ surrogate_pair_char u v ∷ utf16_lossy_chars us
lossy_pair u v us pair = ap (map (λ o. unwrap_or o 0xFFFD)) (utf16_chars_pair u v us pair)

lossy_wide : (c : ℕ) (us : Text) → 65536 ≤ c → c < 1114112 → utf16_lossy_chars (encode_utf16 c ++ us) ≡ c ∷ utf16_lossy_chars us
lossy_wide c us from below =
    let u = 55296 + (c - 65536) / 1024 in
    let v = 56320 + (c - 65536) % 1024 in
    let pair : IsPair u v = (omega arith, omega arith, omega arith, omega arith) in
    let same : surrogate_pair_char u v ≡ c = omega arith in
    ap (λ (t : Text). utf16_lossy_chars (t ++ us)) (two_units c from) ∙ lossy_pair u v us pair ∙ ap (λ (d : ℕ). d ∷ utf16_lossy_chars us) same

-- the units of a character are read as that character
lossy_char : (c : ℕ) (us : Text) → scalar c ≡ true → utf16_lossy_chars (encode_utf16 c ++ us) ≡ c ∷ utf16_lossy_chars us
lossy_char c us s = by_size (scalar_cases c s) (cases_lt c 65536)
  where
    by_size : (c < 55296) ⊎ ((57344 ≤ c) × (c < 1114112)) → (c < 65536) ⊎ (65536 ≤ c) → utf16_lossy_chars (encode_utf16 c ++ us) ≡ c ∷ utf16_lossy_chars us
    by_size (inl low) one = rw (one_unit c (omega arith)) (lossy_plain c us (inl low))
    by_size (inr high) (inl one) = rw (one_unit c one) (lossy_plain c us (inr high.0))
    by_size (inr high) (inr two) = lossy_wide c us two high.1

abbrev Whole : Text → Type 0
Whole us = (scalars (utf16_lossy_chars us) ≡ true) × (flat_map encode_utf16 (utf16_lossy_chars us) ≡ us)

whole_plain : (u : ℕ) (us : Text) → u < 65536 → is_high u ≡ false → is_low u ≡ false → Whole us → Whole (u ∷ us)
whole_plain u us fits high low w =
    let out = outside u high low in
    let character : scalar u ≡ true = ⊎_elim (low_scalar u) (λ from. scalar_above u from (omega arith)) out in (
      rw (lossy_plain u us out) (and_from (scalar u) (scalars (utf16_lossy_chars us)) character w.0),
      rw (lossy_plain u us out) (ap (λ (t : Text). t ++ flat_map encode_utf16 (utf16_lossy_chars us)) (one_unit u fits) ∙ ap (λ (t : Text). u ∷ t) w.1),
    )

whole_pair : (u v : ℕ) (us : Text) → IsPair u v → Whole us → Whole (u ∷ v ∷ us)
whole_pair u v us pair w =
    let c = surrogate_pair_char u v in
    let same : c ≡ 0x1_0000 + ((u - 0xD800) * 0x400 + (v - 0xDC00)) = omega arith in
    let units : encode_utf16 c ≡ u ∷ v ∷ [] = ap encode_utf16 same ∙ pair_units u v pair.0 pair.2 pair.3 in (
      rw (lossy_pair u v us pair) (and_from (scalar c) (scalars (utf16_lossy_chars us)) (scalar_above c (omega arith) (omega arith)) w.0),
      rw (lossy_pair u v us pair) (ap (λ (t : Text). t ++ flat_map encode_utf16 (utf16_lossy_chars us)) units ∙ ap (λ (t : Text). u ∷ v ∷ t) w.1),
    )

whole_two : (u v : ℕ) (us : Text) (high : Bool) → u < 65536 → is_high u ≡ high → (not (is_low u) && is_paired high (v ∷ us)) ≡ true
    → (is_well_formed (v ∷ us) ≡ true → Whole (v ∷ us)) → (is_well_formed us ≡ true → Whole us) → Whole (u ∷ v ∷ us)
whole_two u v us true fits high h next after =
    let parts = and_parts (not (is_low u)) (is_low v && is_paired (is_high v) us) h in
    let second = and_parts (is_low v) (is_paired (is_high v) us) parts.1 in
    let first_half = and_parts _ _ high in
    let second_half = and_parts _ _ second.0 in
    let pair : IsPair u v = (leb-true _ _ first_half.0, ltb-true _ _ first_half.1, leb-true _ _ second_half.0, ltb-true _ _ second_half.1) in
    let closed = rw (high_above v pair.2) at second.1 in
    whole_pair u v us pair (after closed)
whole_two u v us false fits high h next after =
    let parts = and_parts (not (is_low u)) (is_paired false (v ∷ us)) h in
    whole_plain u (v ∷ us) fits high (not-true (is_low u) parts.0) (next parts.1)

nothing : Whole []
nothing = (rw utf16_chars-nil refl, rw utf16_chars-nil refl)

whole : (us : Text) → ((k : ℕ) → get_or us k 0 < 65536) → is_well_formed us ≡ true → Whole us
whole [] fits h = nothing
whole (u ∷ []) fits h =
    let parts = and_parts (not (is_low u)) (not (is_high u)) h in
    whole_plain u [] (fits 0) (not-true (is_high u) parts.1) (not-true (is_low u) parts.0) nothing
whole (u ∷ v ∷ us) fits h =
    whole_two u v us (is_high u) (fits 0) refl h (whole (v ∷ us) (λ k. fits (suc k))) (whole us (λ k. fits (suc (suc k))))

-- a well-formed text is the units of its UTF-8
pub units_of-utf8_of : (us : Text) → ((k : ℕ) → get_or us k 0 < 65536) → is_well_formed us ≡ true → units_of (utf8_of us) ≡ us
units_of-utf8_of us fits h =
    let w = whole us fits h in ap (flat_map encode_utf16) (chars-encodes (utf16_lossy_chars us) w.0) ∙ w.1

-- what is read from the units of characters is those characters
lossy_units : (cs : List ℕ) → scalars cs ≡ true → utf16_lossy_chars (flat_map encode_utf16 cs) ≡ cs
lossy_units [] s = rw utf16_chars-nil refl
lossy_units (c ∷ cs) s =
    let parts = and_parts (scalar c) (scalars cs) s in
    lossy_char c (flat_map encode_utf16 cs) parts.0 ∙ ap (λ (t : List ℕ). c ∷ t) (lossy_units cs parts.1)

-- a text in UTF-8 is the UTF-8 of its units
pub utf8_of-units_of : (bytes : List ℕ) → IsUtf8 bytes → utf8_of (units_of bytes) ≡ bytes
utf8_of-units_of bytes utf8 = ap encode_utf8_all (lossy_units (chars bytes) (scalars-chars bytes utf8)) ∙ encodes-chars bytes utf8
