-- The name of a pad's file spells its id.
use Rattle.std.proofs.Common.{◌≡◌, ℕ, ◌-◌, List, ◌++◌, length, take, Ok, Option, Some, refl, sym, ap, ◌∙◌, subst, arith, length-append}
use Rattle.std.specs.Prelude.{IfSome}
use Rattle.std.proofs.Math.Seq.{take-append_seam}
use Rattle.std.specs.Str.{IsUtf8}
use Rattle.hex.specs.Hex.{IsBytes, decode_of, encode_lower}
use Rattle.hex.proofs.HexLemmas.{decode_of-encode_lower}
use Rattle.ep_units.specs.Utf8.{units_of}
use Rattle.ep_units.proofs.Back.{utf8_of-units_of}
use Rattle.ep_edge.specs.FileName.{file_name_of, named_for}

-- what stands before an end of four
before_end : (xs ys : List ℕ) → length ys ≡ 4 → take (length (xs ++ ys) - 4) (xs ++ ys) ≡ xs
before_end xs ys four =
    let long = length-append xs ys in
    let n : length (xs ++ ys) - 4 ≡ length xs = omega (arith, long, four) in
    rw n (take-append_seam xs ys)

-- the name of the file whose pad has the units of a text
pub named : (text : List ℕ) → IsUtf8 text → file_name_of (units_of text) ≡ named_for text
named text utf8 = ap named_for (utf8_of-units_of text utf8)

-- what stands before `.pad` in it spells the text
pub spells : (text name digits : List ℕ) → IsBytes text → IsUtf8 text → name ≡ file_name_of (units_of text) → digits ≡ take (length name - 4) name → decode_of digits ≡ Ok text
spells text name digits bytes utf8 e front =
    let whole : name ≡ named_for text = e ∙ named text utf8 in
    let stem : take (length name - 4) name ≡ encode_lower text = rw whole (before_end (encode_lower text) _ refl) in
    ap decode_of (front ∙ stem) ∙ decode_of-encode_lower text bytes

-- where the pad that was read has the units of the text, the name of its file is the name that was looked at
pub told_back : (text name made : List ℕ) (id : List ℕ) → IsUtf8 text → name ≡ file_name_of (units_of text) → Some id ≡ Some (units_of text) → made ≡ file_name_of id → made ≡ name
told_back text name made id utf8 e read own =
    let Q : Option (List ℕ) → Type 0 = λ o. IfSome o (λ i. made ≡ file_name_of i) in
    let there : made ≡ file_name_of (units_of text) = subst Q read own in
    there ∙ sym e
