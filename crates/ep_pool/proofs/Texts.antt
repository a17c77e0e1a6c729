-- The units of a text in UTF-8 are those of a text.
use Rattle.std.proofs.Common.{◌≡◌, ℕ, zero, suc, ◌+◌, ◌-◌, ◌/◌, ◌%◌, ◌<◌, ◌≤◌, true, List, [], ◌∷◌, ◌++◌, slice_index, inl, inr, arith}
use Rattle.std.proofs.lemmas.Bool.{and_parts, cases_lt}
use Rattle.std.proofs.lemmas.Str.{scalars-chars}
use Rattle.std.proofs.str.Utf16.{one_unit, two_units}
use Rattle.std.specs.Bool.{⊤}
use Rattle.std.specs.List.{flat_map}
use Rattle.std.specs.Str.{IsUtf8, chars}
use Rattle.std.specs.Char.Escape.{encode_utf16}
use lib.Utf8.{scalar, scalars, scalar_cases}
use Rattle.ep_attr.specs.AttrMap.{Pair}
use Rattle.ep_units.specs.Text.{Text}
use Rattle.ep_units.specs.Utf8.{units_of}
use Rattle.ep_pool.specs.Read.{AreTexts, IsText}

AreUnits : Text → Type 0
AreUnits [] = ⊤
AreUnits (u ∷ us) = (u < 65536) × AreUnits us

units_at : (us : Text) (k : ℕ) → AreUnits us → slice_index us k < 65536
unfolding AreUnits
units_at [] k are = omega arith
units_at (u ∷ us) zero are = are.0
units_at (u ∷ us) (suc k) are = units_at us k are.1

units-append : (us vs : Text) → AreUnits us → AreUnits vs → AreUnits (us ++ vs)
unfolding AreUnits
units-append [] vs are more = more
units-append (u ∷ us) vs are more = (are.0, units-append us vs are.1 more)

scalar_below : (c : ℕ) → scalar c ≡ true → c < 1114112
scalar_below c s = elim (scalar_cases c s) [ inl low ↦ omega arith | inr high ↦ high.1 ]

units_of_char : (c : ℕ) → c < 1114112 → AreUnits (encode_utf16 c)
unfolding AreUnits
units_of_char c below =
    elim (cases_lt c 65536) [ inl one ↦ rw (one_unit c one) (one, tt) | inr two ↦ rw (two_units c two) (omega arith, (omega arith, tt)) ]

units_of_chars : (cs : List ℕ) → scalars cs ≡ true → AreUnits (flat_map encode_utf16 cs)
unfolding AreUnits
units_of_chars [] s = tt
units_of_chars (c ∷ cs) s =
    let parts = and_parts _ _ s in
    units-append (encode_utf16 c) (flat_map encode_utf16 cs) (units_of_char c (scalar_below c parts.0)) (units_of_chars cs parts.1)

pub units_fit : (bytes : List ℕ) → IsUtf8 bytes → (k : ℕ) → slice_index (units_of bytes) k < 65536
units_fit bytes utf8 k = units_at (units_of bytes) k (units_of_chars (chars bytes) (scalars-chars bytes utf8))

-- one more pair of texts
pub texts_push : (ps : List Pair) (p : Pair) → AreTexts ps → IsText p.0 → IsText p.1 → AreTexts (ps ++ p ∷ [])
texts_push [] p are key value = (key, value, tt)
texts_push (q ∷ ps) p are key value = (are.0, are.1, texts_push ps p are.2 key value)
