-- A text of ASCII is its own UTF-8.
use Rattle.std.proofs.Common.{◌≡◌, ℕ, zero, suc, ◌+◌, ◌-◌, drop, ap₂, length-drop, length-append, append_assoc, drop-drop, ◌<◌, ◌≤◌, ◌^◌, true, List, [], ◌∷◌, ◌++◌, length, take, refl, sym, ap, subst, ◌∙◌, arith}
use Rattle.std.proofs.lemmas.Bool.{and_parts, ltb-true}
use Rattle.std.proofs.lemmas.List.{take_all, take-append-le, drop-append-le}
use Rattle.std.proofs.Math.Seq.{take-append_seam, drop-append-add}
use Rattle.std.proofs.lemmas.Str.{chars-IsAscii, IsUtf8-from_ascii}
use Rattle.std.proofs.str.Utf16.{one_unit}
use Rattle.std.specs.List.{flat_map}
use Rattle.std.specs.Str.{IsAscii}
use Rattle.std.specs.Char.Escape.{encode_utf16}
use Rattle.ep_units.specs.Text.{Text, is_well_formed}
use Rattle.ep_units.specs.Utf8.{units_of, utf8_of}
use Rattle.ep_units.proofs.Back.{utf8_of-units_of}
use Rattle.ep_units.proofs.Pairing.{paired_utf8}
use Rattle.ep_fields.specs.Bytes.{count, text, IsText}
use Rattle.ep_fields.specs.Writing.{begun, is_ascii}

-- where each is tested to be ASCII
below : (us : Text) → is_ascii us ≡ true → IsAscii us
below [] h i = omega arith
below (u ∷ us) h zero = ltb-true u 128 (and_parts _ _ h).0
below (u ∷ us) h (suc i) = below us (and_parts _ _ h).1 i

single : (us : Text) → IsAscii us → flat_map encode_utf16 us ≡ us
single [] h = refl
single (u ∷ us) h =
    ap (λ (t : Text). t ++ flat_map encode_utf16 us) (one_unit u (omega (arith, h 0))) ∙ ap (λ (t : Text). u ∷ t) (single us (λ i. h (suc i)))

same_units : (us : Text) → IsAscii us → units_of us ≡ us
same_units us h = ap (flat_map encode_utf16) (chars-IsAscii us h) ∙ single us h

same_bytes : (us : Text) → IsAscii us → utf8_of us ≡ us
same_bytes us h = ap utf8_of (sym (same_units us h)) ∙ utf8_of-units_of us (IsUtf8-from_ascii us h)

ascii_text : (us : Text) → IsAscii us → text us ≡ count (length us) ++ us
unfolding text
ascii_text us h = ap (λ (bs : List ℕ). count (length bs) ++ bs) (same_bytes us h)

ascii_is : (us : Text) → IsAscii us → length us < 2 ^ 32 → IsText us
ascii_is us h few =
    record {
      units = λ i. omega (arith, h i);
      whole = subst (λ (t : Text). is_well_formed t ≡ true) (same_units us h) (paired_utf8 us (IsUtf8-from_ascii us h));
      few = rw (same_bytes us h) few;
    }

-- behind what was there before, the count and the units were added
pub ascii_added : (old new us : List ℕ) → is_ascii us ≡ true → length us < 2 ^ 32 → new ≡ old ++ (count (length us) ++ us) → (new ≡ old ++ text us) × IsText us
ascii_added old new us h few added =
    let is = below us h in
    (added ∙ ap (λ (bs : List ℕ). old ++ bs) (sym (ascii_text us is)), ascii_is us is few)

-- the same where the vector was made longer first, and then written from its old end on
pub room_filled : (old us front new behind : List ℕ) (n : ℕ) → front ≡ old → new ≡ count (length us) ++ us → n ≡ length (front ++ new) → is_ascii us ≡ true → length us < 2 ^ 32
    → (take n ((front ++ new) ++ behind) ≡ old ++ text us) × IsText us
room_filled old us front new behind n first bytes len h few =
    ascii_added old (take n ((front ++ new) ++ behind)) us h few (
    ap (λ (k : ℕ). take k ((front ++ new) ++ behind)) len ∙ take-append_seam (front ++ new) behind
    ∙ ap (λ (bs : List ℕ). bs ++ new) first ∙ ap (λ (bs : List ℕ). old ++ bs) bytes
    )

pub front_kept : (old zeros whole : List ℕ) (at n : ℕ) → at ≤ length old → length old ≤ n → whole ≡ take n old ++ zeros → take at whole ≡ take at old
front_kept old zeros whole at n le all made =
    ap (take at) (made ∙ ap (λ (bs : List ℕ). bs ++ zeros) (take_all n old all)) ∙ take-append-le at old zeros le

-- what stood there when the vector was made longer
pub begun_kept : (old zeros whole : List ℕ) (at n room : ℕ) → at + 4 ≤ length old → length old ≤ n → length whole ≡ length old + room → whole ≡ take n old ++ zeros
    → begun (drop at whole) room ≡ drop (at + 4) old
begun_kept old zeros whole at n room inside le len made =
    let all : whole ≡ old ++ zeros = made ∙ ap (λ (bs : List ℕ). bs ++ zeros) (take_all n old le) in
    let some : at ≤ length old = omega (arith, inside) in
    let four : 4 ≤ length (drop at old) = omega (arith, inside, length-drop at old) in
    let behind : drop at whole ≡ drop at old ++ zeros = ap (drop at) all ∙ drop-append-le at old zeros some in
    let text : drop 4 (drop at whole) ≡ drop (at + 4) old ++ zeros =
    ap (drop 4) behind ∙ drop-append-le 4 (drop at old) zeros four ∙ ap (λ (bs : List ℕ). bs ++ zeros) (drop-drop 4 at old) in
    let count : length (drop at whole) - (4 + room) ≡ length (drop (at + 4) old) = omega (arith, inside, len, length-drop at whole, length-drop (at + 4) old) in
    ap₂ (λ (k : ℕ) (bs : List ℕ). take k bs) count text ∙ take-append_seam (drop (at + 4) old) zeros

-- a text that was begun behind others, by four bytes and its front
pub front_behind : (old new front : List ℕ) (at : ℕ) → at ≡ length old → new ≡ (old ++ 0 ∷ 0 ∷ 0 ∷ 0 ∷ []) ++ front → (at + 4 ≤ length new) × (take at new ≡ old) × (drop (at + 4) new ≡ front)
front_behind old new front at len made =
    let four : List ℕ = 0 ∷ 0 ∷ 0 ∷ 0 ∷ [] in
    let whole : new ≡ old ++ (four ++ front) = made ∙ append_assoc old four front in
    let there : at + 4 ≡ length old + 4 = omega (arith, len) in
    let room : at + 4 ≤ length new = omega (arith, len, ap length whole, length-append old (four ++ front), length-append four front) in
    let first : take at new ≡ old = ap₂ (λ (k : ℕ) (bs : List ℕ). take k bs) len whole ∙ take-append_seam old (four ++ front) in
    let behind : drop (at + 4) new ≡ front = ap₂ (λ (k : ℕ) (bs : List ℕ). drop k bs) there whole ∙ drop-append-add old (four ++ front) 4 in
    (room, first, behind)
