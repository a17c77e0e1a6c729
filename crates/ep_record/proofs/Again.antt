-- What is written is read again.
use Rattle.std.proofs.Common.{◌≡◌, ℕ, suc, ◌^◌, ◌<◌, Bool, true, false, cond, ltb, fold, List, [], ◌∷◌, ◌++◌, length, take, drop, Option, Some, None, Ok, refl, sym, ap, ◌∙◌, append_assoc, append-nil, arith}
use Rattle.std.specs.Int.{Width, w32, w64, byte_len, from_be_bytes, to_be_bytes}
use Rattle.std.specs.List.{AllByRecursion, flat_map}
use Rattle.std.proofs.lemmas.Bool.{le-ltb}
use Rattle.std.proofs.lemmas.Option.{same_Some}
use Rattle.std.proofs.lemmas.List.{take_at, drop_at, length-append}
use Rattle.std.proofs.lemmas.List.Concat.{flat_map-cons}
use Rattle.std.proofs.lemmas.Nat.{from_be_bytes-to_be_bytes_4, from_be_bytes-to_be_bytes_8}
use Rattle.ep_units.specs.Text.{Text}
use Rattle.ep_units.specs.Utf8.{utf8_of}
use Rattle.ep_units.specs.declared.session.Session.{Session}
use Rattle.ep_units.proofs.Back.{units_of-utf8_of}
use Rattle.ep_attr.specs.AttrMap.{Pair}
use Rattle.ep_pool.specs.Pool.{put}
use Rattle.ep_cs.specs.Change.{Change}
use Rattle.ep_csread.specs.Reading.{reading}
use Rattle.ep_csread.proofs.Printed.{printed_read}
use Rattle.ep_csread.proofs.WirePool.{named_there}
use Rattle.ep_history.specs.declared.record.Record.{Record}
use Rattle.ep_history.specs.declared.record.Record.TheVariants.{Open, Create, Rev, Delete, Public, Nop}
use Rattle.ep_record.specs.Bytes.{number, count, session, flag, counted, text, pair, pool, change, wire_pool, wire_text, bytes_of, IsNumber, IsSession, IsText, IsPair, IsPool, IsChange, IsRecord, IsEncoding, AreEncodings}
use Rattle.ep_record.specs.Reading.{number_at, count_at, session_at, flag_at, counted_at, text_at, pair_at, pairs_at, pool_at, change_at, open_at, create_at, rev_at, delete_at, public_at, nop_at, record_at}
use Rattle.ep_record.proofs.Texts.{is_utf8-utf8_of}
use Rattle.ep_record.proofs.Distinct.{put_again}

-- ---- numbers

number_by : (w : Width) (n : ℕ) (rest : List ℕ) → length (to_be_bytes w n) ≡ byte_len w → from_be_bytes w (to_be_bytes w n) ≡ n
    → cond {A = Option (ℕ × List ℕ)} (ltb (length (to_be_bytes w n ++ rest)) (byte_len w)) None (Some (from_be_bytes w (take (byte_len w) (to_be_bytes w n ++ rest)), drop (byte_len w) (to_be_bytes w n ++ rest))) ≡ Some (n, rest)
number_by w n rest len again =
    let long : ltb (length (to_be_bytes w n ++ rest)) (byte_len w) ≡ false = le-ltb _ _ (omega (arith, length-append (to_be_bytes w n) rest, len)) in
    rw (long, take_at (to_be_bytes w n) rest (byte_len w) len, drop_at (to_be_bytes w n) rest (byte_len w) len, again) refl

number_again : (n : ℕ) (rest : List ℕ) → IsNumber n → number_at (number n ++ rest) ≡ Some (n, rest)
unfolding number number_at
number_again n rest is = number_by w64 n rest refl (from_be_bytes-to_be_bytes_8 n is)

count_again : (n : ℕ) (rest : List ℕ) → n < 2 ^ 32 → count_at (count n ++ rest) ≡ Some (n, rest)
unfolding count count_at
count_again n rest is = number_by w32 n rest refl (from_be_bytes-to_be_bytes_4 n is)

session_again : (s : Session) (rest : List ℕ) → IsSession s → session_at (session s ++ rest) ≡ Some (s, rest)
unfolding session session_at
session_again s rest is =
    let grouped : session s ++ rest ≡ number s.epoch ++ (number s.count ++ rest) = append_assoc (number s.epoch) (number s.count) rest in
    ap session_at grouped ∙ rw (number_again s.epoch (number s.count ++ rest) is.0, number_again s.count rest is.1) refl

flag_again : (b : Bool) (rest : List ℕ) → flag_at (flag b ++ rest) ≡ Some (b, rest)
unfolding flag_at
flag_again false rest = refl
flag_again true rest = refl

-- ---- texts

counted_again : (bytes rest : List ℕ) → length bytes < 2 ^ 32 → counted_at (counted bytes ++ rest) ≡ Some (bytes, rest)
unfolding counted_at
counted_again bytes rest few =
    let long : ltb (length (bytes ++ rest)) (length bytes) ≡ false = le-ltb _ _ (omega (arith, length-append bytes rest)) in
    let grouped : counted bytes ++ rest ≡ count (length bytes) ++ (bytes ++ rest) = append_assoc (count (length bytes)) bytes rest in
    ap counted_at grouped ∙ rw (count_again (length bytes) (bytes ++ rest) few, long, take_at bytes rest (length bytes) refl, drop_at bytes rest (length bytes) refl) refl

text_again : (us : Text) (rest : List ℕ) → IsText us → text_at (text us ++ rest) ≡ Some (us, rest)
unfolding text text_at
text_again us rest is =
    rw (counted_again (utf8_of us) rest is.few, is_utf8-utf8_of us is.units, units_of-utf8_of us is.units is.whole) refl

-- ---- pools and changes

pair_again : (p : Pair) (rest : List ℕ) → IsPair p → pair_at (pair p ++ rest) ≡ Some (p, rest)
unfolding pair pair_at
pair_again p rest is =
    let grouped : pair p ++ rest ≡ text p.0 ++ (text p.1 ++ rest) = append_assoc (text p.0) (text p.1) rest in
    ap pair_at grouped ∙ rw (text_again p.0 (text p.1 ++ rest) is.0, text_again p.1 rest is.1) refl

pairs_again : (ps qs : List Pair) (rest : List ℕ) → AllByRecursion IsPair ps → pairs_at (length ps) qs (flat_map pair ps ++ rest) ≡ Some (fold put qs ps, rest)
unfolding pairs_at
pairs_again [] qs rest all = refl
pairs_again (p ∷ ps) qs rest all =
    let grouped : flat_map pair (p ∷ ps) ++ rest ≡ pair p ++ (flat_map pair ps ++ rest) = ap (λ (x : List ℕ). x ++ rest) (flat_map-cons pair p ps) ∙ append_assoc (pair p) (flat_map pair ps) rest in
    ap (pairs_at (suc (length ps)) qs) grouped ∙ rw (pair_again p (flat_map pair ps ++ rest) all.0, pairs_again ps (put qs p) rest all.1) refl

pool_again : (ps : List Pair) (rest : List ℕ) → IsPool ps → pool_at (pool ps ++ rest) ≡ Some (fold put [] ps, rest)
unfolding pool pool_at
pool_again ps rest is =
    let grouped : pool ps ++ rest ≡ count (length ps) ++ (flat_map pair ps ++ rest) = append_assoc (count (length ps)) (flat_map pair ps) rest in
    ap pool_at grouped ∙ rw (count_again (length ps) (flat_map pair ps ++ rest) is.few, pairs_again ps [] rest is.texts) refl

spelled_again : (c : Change) → IsChange c → reading (wire_pool c) (wire_text c) ≡ Ok c
spelled_again c is = printed_read (wire_pool c) c is.pairs.few (named_there (wire_pool c) c.runs c.runs refl refl) is.normal

change_again : (c : Change) (rest : List ℕ) → IsChange c → change_at (change c ++ rest) ≡ Some (c, rest)
unfolding change change_at
change_again c rest is =
    let grouped : change c ++ rest ≡ text (wire_text c) ++ (pool (wire_pool c) ++ rest) = append_assoc (text (wire_text c)) (pool (wire_pool c)) rest in
    ap change_at grouped ∙ rw (text_again (wire_text c) (pool (wire_pool c) ++ rest) is.spelling, pool_again (wire_pool c) rest is.pairs, put_again c.runs, spelled_again c is) refl

-- ---- records

abbrev Back : Record → Type 0
Back r = record_at (bytes_of r) ≡ Some r

ended : (bytes : List ℕ) → bytes ≡ bytes ++ []
ended bytes = sym (append-nil bytes)

number_ends : (n : ℕ) → IsNumber n → number_at (number n) ≡ Some (n, [])
number_ends n is = ap (number_at) (ended (number n)) ∙ number_again n [] is

text_ends : (us : Text) → IsText us → text_at (text us) ≡ Some (us, [])
text_ends us is = ap text_at (ended (text us)) ∙ text_again us [] is

change_ends : (c : Change) → IsChange c → change_at (change c) ≡ Some (c, [])
change_ends c is = ap change_at (ended (change c)) ∙ change_again c [] is

flag_ends : (b : Bool) → flag_at (flag b) ≡ Some (b, [])
flag_ends b = ap flag_at (ended (flag b)) ∙ flag_again b []

open_from : (epoch : ℕ) (a b : List ℕ) → number_at a ≡ Some (epoch, b) → open_at a ≡ Some (Open epoch)
unfolding open_at
open_from epoch a b e = rw e refl

create_from : (birth time : ℕ) (first : Text) (a b c d : List ℕ) → number_at a ≡ Some (birth, b) → number_at b ≡ Some (time, c) → text_at c ≡ Some (first, d) → create_at a ≡ Some (Create birth time first)
unfolding create_at
create_from birth time first a b c d p q r = rw (p, q, r) refl

rev_from : (by : Session) (time : ℕ) (author : Text) (fixed : Bool) (x : Change) (a b c d e f : List ℕ) → session_at a ≡ Some (by, b) → number_at b ≡ Some (time, c) → text_at c ≡ Some (author, d)
    → flag_at d ≡ Some (fixed, e) → change_at e ≡ Some (x, f) → rev_at a ≡ Some (Rev by time author fixed x)
unfolding rev_at
rev_from by time author fixed x a b c d e f p q r s t = rw (p, q, r, s, t) refl

delete_from : (time : ℕ) (a b : List ℕ) → number_at a ≡ Some (time, b) → delete_at a ≡ Some (Delete time)
unfolding delete_at
delete_from time a b e = rw e refl

public_from : (on : Bool) (a b : List ℕ) → flag_at a ≡ Some (on, b) → public_at a ≡ Some (Public on)
unfolding public_at
public_from on a b e = rw e refl

nop_from : (by : Session) (time : ℕ) (a b c : List ℕ) → session_at a ≡ Some (by, b) → number_at b ≡ Some (time, c) → nop_at a ≡ Some (Nop by time)
unfolding nop_at
nop_from by time a b c p q = rw (p, q) refl

kind_1 : (bytes : List ℕ) → record_at (1 ∷ bytes) ≡ open_at bytes
unfolding record_at
kind_1 bytes = refl

kind_2 : (bytes : List ℕ) → record_at (2 ∷ bytes) ≡ create_at bytes
unfolding record_at
kind_2 bytes = refl

kind_3 : (bytes : List ℕ) → record_at (3 ∷ bytes) ≡ rev_at bytes
unfolding record_at
kind_3 bytes = refl

kind_4 : (bytes : List ℕ) → record_at (4 ∷ bytes) ≡ delete_at bytes
unfolding record_at
kind_4 bytes = refl

kind_5 : (bytes : List ℕ) → record_at (5 ∷ bytes) ≡ public_at bytes
unfolding record_at
kind_5 bytes = refl

kind_6 : (bytes : List ℕ) → record_at (6 ∷ bytes) ≡ nop_at bytes
unfolding record_at
kind_6 bytes = refl

create_back : (birth time : ℕ) (first : Text) → IsNumber birth → IsNumber time → IsText first → create_at (number birth ++ (number time ++ text first)) ≡ Some (Create birth time first)
create_back birth time first b t f =
    create_from birth time first (number birth ++ (number time ++ text first)) (number time ++ text first) (text first) []
    (number_again birth (number time ++ text first) b) (number_again time (text first) t) (text_ends first f)

rev_joined : (by : Session) (time : ℕ) (author : Text) (fixed : Bool) (c : Change) (s n t f x : List ℕ) → ((rest : List ℕ) → session_at (s ++ rest) ≡ Some (by, rest)) → ((rest : List ℕ) → number_at (n ++ rest) ≡ Some (time, rest))
    → ((rest : List ℕ) → text_at (t ++ rest) ≡ Some (author, rest)) → ((rest : List ℕ) → flag_at (f ++ rest) ≡ Some (fixed, rest)) → change_at x ≡ Some (c, [])
    → rev_at (s ++ (n ++ (t ++ (f ++ x)))) ≡ Some (Rev by time author fixed c)
rev_joined by time author fixed c s n t f x p q r o e =
    rev_from by time author fixed c (s ++ (n ++ (t ++ (f ++ x)))) (n ++ (t ++ (f ++ x))) (t ++ (f ++ x)) (f ++ x) x [] (p (n ++ (t ++ (f ++ x)))) (q (t ++ (f ++ x))) (r (f ++ x)) (o x) e

rev_back : (by : Session) (time : ℕ) (author : Text) (fixed : Bool) (c : Change) → IsSession by → IsNumber time → IsText author → IsChange c
    → rev_at (session by ++ (number time ++ (text author ++ (flag fixed ++ change c)))) ≡ Some (Rev by time author fixed c)
rev_back by time author fixed c s t a is =
    rev_joined by time author fixed c (session by) (number time) (text author) (flag fixed) (change c)
    (λ rest. session_again by rest s) (λ rest. number_again time rest t) (λ rest. text_again author rest a) (λ rest. flag_again fixed rest) (change_ends c is)

nop_back : (by : Session) (time : ℕ) → IsSession by → IsNumber time → nop_at (session by ++ number time) ≡ Some (Nop by time)
nop_back by time s t = nop_from by time (session by ++ number time) (number time) [] (session_again by (number time) s) (number_ends time t)

pub again : (r : Record) → IsRecord r → Back r
again (Open epoch) is = kind_1 (number epoch) ∙ open_from epoch (number epoch) [] (number_ends epoch is)
again (Create birth time first) is = kind_2 (number birth ++ (number time ++ text first)) ∙ create_back birth time first is.0 is.1 is.2
again (Rev by time author fixed c) is = kind_3 (session by ++ (number time ++ (text author ++ (flag fixed ++ change c)))) ∙ rev_back by time author fixed c is.0 is.1 is.2 is.3
again (Delete time) is = kind_4 (number time) ∙ delete_from time (number time) [] (number_ends time is)
again (Public on) is = kind_5 (flag on) ∙ public_from on (flag on) [] (flag_ends on)
again (Nop by time) is = kind_6 (session by ++ number time) ∙ nop_back by time is.0 is.1

-- ---- no bytes are two

pub same_record : (bytes : List ℕ) (r s : Record) → IsEncoding bytes r → IsEncoding bytes s → r ≡ s
same_record bytes r s first second = same_Some r s (sym (again r first.is) ∙ ap record_at (sym first.same) ∙ ap record_at second.same ∙ again s second.is)

pub same_records : (all : List (List ℕ)) (rs ss : List Record) → AreEncodings all rs → AreEncodings all ss → rs ≡ ss
same_records [] [] [] a b = refl
same_records [] [] (s ∷ ss) a b = absurd b
same_records [] (r ∷ rs) ss a b = absurd a
same_records (bytes ∷ all) [] ss a b = absurd a
same_records (bytes ∷ all) (r ∷ rs) [] a b = absurd b
same_records (bytes ∷ all) (r ∷ rs) (s ∷ ss) a b = λ i. same_record bytes r s a.0 b.0 i ∷ same_records all rs ss a.1 b.1 i
