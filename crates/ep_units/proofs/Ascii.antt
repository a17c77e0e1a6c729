-- A text of ASCII has its bytes as units.
use Rattle.std.proofs.Common.{◌≡◌, ℕ, zero, suc, true, List, [], ◌∷◌, ◌++◌, refl, ap, ◌∙◌, arith}
use Rattle.std.proofs.lemmas.Bool.{and_parts, ltb-true}
use Rattle.std.proofs.lemmas.Str.{chars-IsAscii}
use Rattle.std.proofs.str.Utf16.{one_unit}
use Rattle.std.specs.List.{flat_map}
use Rattle.std.specs.Str.{IsAscii}
use Rattle.std.specs.Char.Escape.{encode_utf16}
use Rattle.ep_units.specs.Utf8.{units_of, is_ascii}

-- where each is tested to be ASCII
below : (bs : List ℕ) → is_ascii bs ≡ true → IsAscii bs
below [] h i = omega arith
below (b ∷ bs) h zero = ltb-true b 128 (and_parts _ _ h).0
below (b ∷ bs) h (suc i) = below bs (and_parts _ _ h).1 i

single : (bs : List ℕ) → IsAscii bs → flat_map encode_utf16 bs ≡ bs
single [] h = refl
single (b ∷ bs) h =
    ap (λ (t : List ℕ). t ++ flat_map encode_utf16 bs) (one_unit b (omega (arith, h 0))) ∙ ap (λ (t : List ℕ). b ∷ t) (single bs (λ i. h (suc i)))

pub ascii_units : (bs : List ℕ) → is_ascii bs ≡ true → units_of bs ≡ bs
ascii_units bs h = let is = below bs h in ap (flat_map encode_utf16) (chars-IsAscii bs is) ∙ single bs is
