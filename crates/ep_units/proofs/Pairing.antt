-- The units of characters are in pairs.
use Rattle.std.proofs.Common.{◌≡◌, ℕ, ◌+◌, ◌-◌, ◌/◌, ◌%◌, ◌<◌, ◌≤◌, true, false, List, [], ◌∷◌, ◌++◌, refl, ◌∙◌, ◌⊎◌, inl, inr, ⊎_elim, arith}
use Rattle.std.proofs.lemmas.Bool.{and_parts, and_from, and_left, and_right, lt-ltb, le-ltb, lt-leb, le-leb, cases_lt}
use Rattle.std.proofs.lemmas.Str.{scalars-chars}
use Rattle.std.proofs.str.Utf16.{one_unit, two_units}
use Rattle.std.specs.List.{flat_map}
use Rattle.std.specs.Str.{IsUtf8, chars}
use Rattle.std.specs.Char.Escape.{encode_utf16}
use lib.Utf8.{scalar, scalars, scalar_cases}
use Rattle.ep_units.specs.Text.{Text, is_high, is_low, is_well_formed}
use Rattle.ep_units.specs.Utf8.{units_of}

pub high_is : (u : ℕ) → 55296 ≤ u → u < 56320 → is_high u ≡ true
high_is u from below = and_from _ _ (le-leb 55296 u from) (lt-ltb u 56320 below)

pub high_below : (u : ℕ) → u < 55296 → is_high u ≡ false
high_below u below = and_left _ _ (lt-leb 55296 u below)

pub high_above : (u : ℕ) → 56320 ≤ u → is_high u ≡ false
high_above u from = and_right _ _ (le-ltb u 56320 from)

pub low_is : (u : ℕ) → 56320 ≤ u → u < 57344 → is_low u ≡ true
low_is u from below = and_from _ _ (le-leb 56320 u from) (lt-ltb u 57344 below)

pub low_below : (u : ℕ) → u < 56320 → is_low u ≡ false
low_below u below = and_left _ _ (lt-leb 56320 u below)

pub low_above : (u : ℕ) → 57344 ≤ u → is_low u ≡ false
low_above u from = and_right _ _ (le-ltb u 57344 from)

-- a unit that is no half, before a text
pub paired_plain : (u : ℕ) (us : Text) → is_high u ≡ false → is_low u ≡ false → is_well_formed (u ∷ us) ≡ is_well_formed us
paired_plain u us high low = rw (high, low) refl

-- a pair before a text
pub paired_pair : (u v : ℕ) (us : Text) → 55296 ≤ u → u < 56320 → 56320 ≤ v → v < 57344 → is_well_formed (u ∷ v ∷ us) ≡ is_well_formed us
paired_pair u v us first_from first_below second_from second_below =
    rw (high_is u first_from first_below, low_below u first_below, high_above v second_from, low_is v second_from second_below) refl

-- the units of a character before a text
paired_above : (c : ℕ) (us : Text) → 57344 ≤ c → c < 1114112 → (c < 65536) ⊎ (65536 ≤ c) → is_well_formed (encode_utf16 c ++ us) ≡ is_well_formed us
paired_above c us from below (inl one) = rw (one_unit c one) (paired_plain c us (high_above c (omega arith)) (low_above c from))
paired_above c us from below (inr two) =
    rw (two_units c two)
    (paired_pair (55296 + (c - 65536) / 1024) (56320 + (c - 65536) % 1024) us (omega arith) (omega arith) (omega arith) (omega arith))

pub paired_char : (c : ℕ) (us : Text) → scalar c ≡ true → is_well_formed (encode_utf16 c ++ us) ≡ is_well_formed us
paired_char c us s =
    ⊎_elim
    (λ below. rw (one_unit c (omega arith)) (paired_plain c us (high_below c below) (low_below c (omega arith))))
    (λ r. paired_above c us r.0 r.1 (cases_lt c 65536))
    (scalar_cases c s)

-- the units of characters
pub paired_chars : (cs : List ℕ) → scalars cs ≡ true → is_well_formed (flat_map encode_utf16 cs) ≡ true
paired_chars [] s = refl
paired_chars (c ∷ cs) s =
    let parts = and_parts _ _ s in paired_char c (flat_map encode_utf16 cs) parts.0 ∙ paired_chars cs parts.1

-- the units of a text in UTF-8
pub paired_utf8 : (bytes : List ℕ) → IsUtf8 bytes → is_well_formed (units_of bytes) ≡ true
paired_utf8 bytes utf8 = paired_chars (chars bytes) (scalars-chars bytes utf8)
