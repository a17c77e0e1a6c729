-- What is written is read again from the front of bytes.
use Rattle.std.proofs.Common.{◌≡◌, ℕ, suc, ◌^◌, ◌<◌, Bool, true, false, cond, ltb, fold, List, [], ◌∷◌, ◌++◌, length, take, drop, Option, Some, None, Ok, refl, ap, ◌∙◌, append_assoc, arith}
use Rattle.std.specs.Int.{Width, w32, w64, byte_len, from_be_bytes, to_be_bytes}
use Rattle.std.specs.List.{AllByRecursion, flat_map}
use Rattle.std.proofs.lemmas.Bool.{le-ltb}
use Rattle.std.proofs.lemmas.List.{take_at, drop_at, length-append}
use Rattle.std.proofs.lemmas.List.Concat.{flat_map-cons}
use Rattle.std.proofs.lemmas.Nat.{from_be_bytes-to_be_bytes_4, from_be_bytes-to_be_bytes_8}
use Rattle.ep_units.specs.Text.{Text}
use Rattle.ep_units.specs.Utf8.{utf8_of}
use Rattle.ep_units.specs.declared.session.Session.{Session}
use Rattle.ep_units.proofs.Back.{units_of-utf8_of}
use Rattle.ep_attr.specs.AttrMap.{Pair}
use Rattle.ep_pool.specs.Pool.{put}
use Rattle.ep_cs.specs.Change.{Change, bank_of}
use Rattle.ep_csread.specs.Reading.{reading, reading_attribs}
use Rattle.ep_csread.proofs.Printed.{printed_read, attribs_read}
use Rattle.ep_csread.proofs.WirePool.{named_there}
use Rattle.ep_fields.specs.Bytes.{number, count, session, flag, counted, text, pair, pool, change, wire_pool, wire_text, attribs, frame, IsNumber, IsSession, IsText, IsPair, IsPool, IsChange, IsInsertion}
use Rattle.ep_fields.specs.Reading.{number_at, count_at, session_at, flag_at, counted_at, text_at, pair_at, pairs_at, pool_at, change_at, frame_at}
use Rattle.ep_fields.proofs.Texts.{is_utf8-utf8_of}
use Rattle.ep_fields.proofs.Distinct.{put_again}

-- ---- numbers

number_by : (w : Width) (n : ℕ) (rest : List ℕ) → length (to_be_bytes w n) ≡ byte_len w → from_be_bytes w (to_be_bytes w n) ≡ n
    → cond {A = Option (ℕ × List ℕ)} (ltb (length (to_be_bytes w n ++ rest)) (byte_len w)) None (Some (from_be_bytes w (take (byte_len w) (to_be_bytes w n ++ rest)), drop (byte_len w) (to_be_bytes w n ++ rest))) ≡ Some (n, rest)
number_by w n rest len again =
    let long : ltb (length (to_be_bytes w n ++ rest)) (byte_len w) ≡ false = le-ltb _ _ (omega (arith, length-append (to_be_bytes w n) rest, len)) in
    rw (long, take_at (to_be_bytes w n) rest (byte_len w) len, drop_at (to_be_bytes w n) rest (byte_len w) len, again) refl

pub number_again : (n : ℕ) (rest : List ℕ) → IsNumber n → number_at (number n ++ rest) ≡ Some (n, rest)
unfolding number number_at
number_again n rest is = number_by w64 n rest refl (from_be_bytes-to_be_bytes_8 n is)

count_again : (n : ℕ) (rest : List ℕ) → n < 2 ^ 32 → count_at (count n ++ rest) ≡ Some (n, rest)
unfolding count count_at
count_again n rest is = number_by w32 n rest refl (from_be_bytes-to_be_bytes_4 n is)

pub session_again : (s : Session) (rest : List ℕ) → IsSession s → session_at (session s ++ rest) ≡ Some (s, rest)
unfolding session session_at
session_again s rest is =
    let grouped : session s ++ rest ≡ number s.epoch ++ (number s.count ++ rest) = append_assoc (number s.epoch) (number s.count) rest in
    ap session_at grouped ∙ rw (number_again s.epoch (number s.count ++ rest) is.0, number_again s.count rest is.1) refl

pub flag_again : (b : Bool) (rest : List ℕ) → flag_at (flag b ++ rest) ≡ Some (b, rest)
unfolding flag_at
flag_again false rest = refl
flag_again true rest = refl

-- ---- texts

counted_again : (bytes rest : List ℕ) → length bytes < 2 ^ 32 → counted_at (counted bytes ++ rest) ≡ Some (bytes, rest)
unfolding counted_at
counted_again bytes rest few =
    let long : ltb (length (bytes ++ rest)) (length bytes) ≡ false = le-ltb _ _ (omega (arith, length-append bytes rest)) in
    let grouped : counted bytes ++ rest ≡ count (length bytes) ++ (bytes ++ rest) = append_assoc (count (length bytes)) bytes rest in
    ap counted_at grouped ∙ rw (count_again (length bytes) (bytes ++ rest) few, long, take_at bytes rest (length bytes) refl, drop_at bytes rest (length bytes) refl) refl

pub text_again : (us : Text) (rest : List ℕ) → IsText us → text_at (text us ++ rest) ≡ Some (us, rest)
unfolding text text_at
text_again us rest is =
    rw (counted_again (utf8_of us) rest is.few, is_utf8-utf8_of us is.units, units_of-utf8_of us is.units is.whole) refl

-- ---- pools and changes

pair_again : (p : Pair) (rest : List ℕ) → IsPair p → pair_at (pair p ++ rest) ≡ Some (p, rest)
unfolding pair pair_at
pair_again p rest is =
    let grouped : pair p ++ rest ≡ text p.0 ++ (text p.1 ++ rest) = append_assoc (text p.0) (text p.1) rest in
    ap pair_at grouped ∙ rw (text_again p.0 (text p.1 ++ rest) is.0, text_again p.1 rest is.1) refl

pairs_again : (ps qs : List Pair) (rest : List ℕ) → AllByRecursion IsPair ps → pairs_at (length ps) qs (flat_map pair ps ++ rest) ≡ Some (fold put qs ps, rest)
unfolding pairs_at
pairs_again [] qs rest all = refl
pairs_again (p ∷ ps) qs rest all =
    let grouped : flat_map pair (p ∷ ps) ++ rest ≡ pair p ++ (flat_map pair ps ++ rest) = ap (λ (x : List ℕ). x ++ rest) (flat_map-cons pair p ps) ∙ append_assoc (pair p) (flat_map pair ps) rest in
    ap (pairs_at (suc (length ps)) qs) grouped ∙ rw (pair_again p (flat_map pair ps ++ rest) all.0, pairs_again ps (put qs p) rest all.1) refl

pool_again : (ps : List Pair) (rest : List ℕ) → IsPool ps → pool_at (pool ps ++ rest) ≡ Some (fold put [] ps, rest)
unfolding pool pool_at
pool_again ps rest is =
    let grouped : pool ps ++ rest ≡ count (length ps) ++ (flat_map pair ps ++ rest) = append_assoc (count (length ps)) (flat_map pair ps) rest in
    ap pool_at grouped ∙ rw (count_again (length ps) (flat_map pair ps ++ rest) is.few, pairs_again ps [] rest is.texts) refl

spelled_again : (c : Change) → IsChange c → reading (wire_pool c) (wire_text c) ≡ Ok c
spelled_again c is = printed_read (wire_pool c) c is.pairs.few (named_there (wire_pool c) c.runs c.runs refl refl) is.normal

pub change_again : (c : Change) (rest : List ℕ) → IsChange c → change_at (change c ++ rest) ≡ Some (c, rest)
unfolding change change_at
change_again c rest is =
    let grouped : change c ++ rest ≡ text (wire_text c) ++ (pool (wire_pool c) ++ rest) = append_assoc (text (wire_text c)) (pool (wire_pool c)) rest in
    ap change_at grouped ∙ rw (text_again (wire_text c) (pool (wire_pool c) ++ rest) is.spelling, pool_again (wire_pool c) rest is.pairs, put_again c.runs, spelled_again c is) refl

-- ---- frames

attribs_again : (c : Change) → IsInsertion c → reading_attribs (wire_pool c) (bank_of c.edit) (attribs c) ≡ Ok c
attribs_again c is = attribs_read (wire_pool c) c is.pairs.few (named_there (wire_pool c) c.runs c.runs refl refl) is.normal is.alone

pub frame_again : (c : Change) (rest : List ℕ) → IsInsertion c → frame_at (frame c ++ rest) ≡ Some (c, rest)
unfolding frame frame_at
frame_again c rest is =
    let t : List ℕ = text (bank_of c.edit) in
    let a : List ℕ = text (attribs c) in
    let p : List ℕ = pool (wire_pool c) in
    let grouped : frame c ++ rest ≡ t ++ (a ++ (p ++ rest)) = append_assoc t (a ++ p) rest ∙ ap (λ (x : List ℕ). t ++ x) (append_assoc a p rest) in
    ap frame_at grouped
    ∙ rw (text_again (bank_of c.edit) (a ++ (p ++ rest)) is.text, text_again (attribs c) (p ++ rest) is.attribs, pool_again (wire_pool c) rest is.pairs, put_again c.runs, attribs_again c is) refl
