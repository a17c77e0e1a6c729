-- What is written is read again.
use Rattle.std.proofs.Common.{◌≡◌, ℕ, ◌≤◌, ◌==◌, if◌then◌else◌, nat_lt, Bool, true, false, List, [], ◌∷◌, ◌++◌, Some, None, refl, sym, ap, ap₂, subst, ◌∙◌, append_assoc, append-nil, arith}
use Rattle.std.proofs.lemmas.Bool.{eqb-true, le-ltb}
use Rattle.std.proofs.lemmas.Option.{same_Some}
use Rattle.ep_units.specs.Text.{Text}
use Rattle.ep_units.specs.declared.session.Session.{Session}
use Rattle.ep_cs.specs.Change.{Change}
use Rattle.ep_fields.specs.Bytes.{number, session, flag, text, change, frame, IsNumber, IsSession, IsText, IsChange}
use Rattle.ep_fields.specs.Reading.{number_at, session_at, flag_at, text_at, change_at, frame_at}
use Rattle.ep_fields.proofs.Again.{number_again, session_again, flag_again, text_again, change_again, frame_again}
use Rattle.ep_frames.specs.declared.frame_mark.FrameMark.{FrameMark}
use Rattle.ep_frames.specs.declared.frame_mark.FrameMark.TheVariants as mark
use Rattle.ep_formats.specs.declared.record.Record.{Record}
use Rattle.ep_formats.specs.declared.record.Record.TheVariants.{Open, Create, Rev, Delete, Public, Nop, Format}
use Rattle.ep_formats.specs.Formats.{next_format}
use Rattle.ep_formats.specs.Bytes.{spaced, marked, framed, maker, bytes_of, IsSpaced, IsMark, IsFramed, IsRecord, IsEncoding, AreEncodings}
use Rattle.ep_formats.specs.Reading.{mark_at, framed_at, spacing_at, open_at, create_at, rev_at, delete_at, public_at, nop_at, record_at}

-- ---- fields that end the bytes

ended : (bytes : List ℕ) → bytes ≡ bytes ++ []
ended bytes = sym (append-nil bytes)

number_ends : (n : ℕ) → IsNumber n → number_at (number n) ≡ Some (n, [])
number_ends n is = ap number_at (ended (number n)) ∙ number_again n [] is

text_ends : (us : Text) → IsText us → text_at (text us) ≡ Some (us, [])
text_ends us is = ap text_at (ended (text us)) ∙ text_again us [] is

flag_ends : (b : Bool) → flag_at (flag b) ≡ Some (b, [])
flag_ends b = ap flag_at (ended (flag b)) ∙ flag_again b []

-- ---- fields that format 1 has not

here_from : (c : Change) (a b : List ℕ) → frame_at a ≡ Some (c, b) → mark_at (1 ∷ a) ≡ Some (mark.Here c)
unfolding mark_at
here_from c a b e = rw e refl

none_back : mark_at (0 ∷ []) ≡ Some mark.None
unfolding mark_at
none_back = refl

left_back : mark_at (2 ∷ []) ≡ Some mark.Left
unfolding mark_at
left_back = refl

mark_back : (m : FrameMark) → IsMark m → mark_at (marked m) ≡ Some m
mark_back mark.None is = none_back
mark_back (mark.Here c) is = here_from c (frame c) [] (ap frame_at (ended (frame c)) ∙ frame_again c [] is.inserts)
mark_back mark.Left is = left_back

framed_back : (format : ℕ) (m : FrameMark) → IsFramed format m → framed_at format (framed format m) ≡ Some m
framed_back format m is = by (format == 1) refl
  where
    by : (b : Bool) → (format == 1) ≡ b → (if b then Some mark.None else mark_at (if b then [] else marked m)) ≡ Some m
    by true e = ap Some (sym (is.1 (eqb-true format 1 e)))
    by false e = mark_back m is.0

few_bits : (n : ℕ) → n ≤ 1000 → nat_lt 4294967295 n ≡ false
few_bits n is = le-ltb _ _ (omega (arith, is))

usual_spacing : (format n : ℕ) (rest : List ℕ) → (format == 1) ≡ true → n ≡ 100 → spacing_at format (spaced format n ++ rest) ≡ Some (n, rest)
unfolding spacing_at
usual_spacing format n rest one usual = rw (one, usual) refl

written_spacing : (format n : ℕ) (rest : List ℕ) → (format == 1) ≡ false → n ≤ 1000 → spacing_at format (spaced format n ++ rest) ≡ Some (n, rest)
unfolding spacing_at
written_spacing format n rest other few = rw (other, number_again n rest (omega (arith, few)), few_bits n few) refl

spacing_again : (format n : ℕ) (rest : List ℕ) → IsSpaced format n → spacing_at format (spaced format n ++ rest) ≡ Some (n, rest)
spacing_again format n rest is = by (format == 1) refl
  where
    by : (b : Bool) → (format == 1) ≡ b → spacing_at format (spaced format n ++ rest) ≡ Some (n, rest)
    by true e = usual_spacing format n rest e (is.2 (eqb-true format 1 e))
    by false e = written_spacing format n rest e is.1

-- ---- records

open_from : (epoch : ℕ) (a b : List ℕ) → number_at a ≡ Some (epoch, b) → open_at a ≡ Some (Open epoch)
unfolding open_at
open_from epoch a b e = rw e refl

create_from : (format birth time spacing : ℕ) (first : Text) (a b c d e : List ℕ) → number_at a ≡ Some (birth, b) → number_at b ≡ Some (time, c) → spacing_at format c ≡ Some (spacing, d) → text_at d ≡ Some (first, e)
    → create_at format a ≡ Some (Create birth time spacing first)
unfolding create_at
create_from format birth time spacing first a b c d e p q r s = rw (p, q, r, s) refl

rev_from : (format : ℕ) (by : Session) (time : ℕ) (author : Text) (fixed : Bool) (x : Change) (m : FrameMark) (a b c d e f : List ℕ) → session_at a ≡ Some (by, b) → number_at b ≡ Some (time, c) → text_at c ≡ Some (author, d)
    → flag_at d ≡ Some (fixed, e) → change_at e ≡ Some (x, f) → framed_at format f ≡ Some m → rev_at format a ≡ Some (Rev by time author fixed x m)
unfolding rev_at
rev_from format by time author fixed x m a b c d e f p q r s t u = rw (p, q, r, s, t, u) refl

delete_from : (time : ℕ) (a b : List ℕ) → number_at a ≡ Some (time, b) → delete_at a ≡ Some (Delete time)
unfolding delete_at
delete_from time a b e = rw e refl

public_from : (on : Bool) (a b : List ℕ) → flag_at a ≡ Some (on, b) → public_at a ≡ Some (Public on)
unfolding public_at
public_from on a b e = rw e refl

nop_from : (by : Session) (time : ℕ) (a b c : List ℕ) → session_at a ≡ Some (by, b) → number_at b ≡ Some (time, c) → nop_at a ≡ Some (Nop by time)
unfolding nop_at
nop_from by time a b c p q = rw (p, q) refl

kind_1 : (format : ℕ) (bytes : List ℕ) → record_at format (1 ∷ bytes) ≡ open_at bytes
unfolding record_at
kind_1 format bytes = refl

kind_2 : (format : ℕ) (bytes : List ℕ) → record_at format (2 ∷ bytes) ≡ create_at format bytes
unfolding record_at
kind_2 format bytes = refl

kind_3 : (format : ℕ) (bytes : List ℕ) → record_at format (3 ∷ bytes) ≡ rev_at format bytes
unfolding record_at
kind_3 format bytes = refl

kind_4 : (format : ℕ) (bytes : List ℕ) → record_at format (4 ∷ bytes) ≡ delete_at bytes
unfolding record_at
kind_4 format bytes = refl

kind_5 : (format : ℕ) (bytes : List ℕ) → record_at format (5 ∷ bytes) ≡ public_at bytes
unfolding record_at
kind_5 format bytes = refl

kind_6 : (format : ℕ) (bytes : List ℕ) → record_at format (6 ∷ bytes) ≡ nop_at bytes
unfolding record_at
kind_6 format bytes = refl

kind_7 : (format : ℕ) → record_at format (7 ∷ []) ≡ Some Format
unfolding record_at
kind_7 format = refl

create_back : (format birth time spacing : ℕ) (first : Text) → IsNumber birth → IsNumber time → IsSpaced format spacing → IsText first
    → create_at format (number birth ++ (number time ++ (spaced format spacing ++ text first))) ≡ Some (Create birth time spacing first)
create_back format birth time spacing first b t s f =
    let rest : List ℕ = spaced format spacing ++ text first in
    create_from format birth time spacing first (number birth ++ (number time ++ rest)) (number time ++ rest) rest (text first) []
    (number_again birth (number time ++ rest) b) (number_again time rest t) (spacing_again format spacing (text first) s) (text_ends first f)

-- a maker and the rest, field by field
parted : (s n t o x : List ℕ) → (s ++ (n ++ (t ++ o))) ++ x ≡ s ++ (n ++ (t ++ (o ++ x)))
parted s n t o x =
    append_assoc s (n ++ (t ++ o)) x
    ∙ ap (λ (y : List ℕ). s ++ y) (append_assoc n (t ++ o) x ∙ ap (λ (y : List ℕ). n ++ y) (append_assoc t o x))

rev_back : (format : ℕ) (by : Session) (time : ℕ) (author : Text) (fixed : Bool) (c : Change) (m : FrameMark) → IsSession by → IsNumber time → IsText author → IsChange c → IsFramed format m
    → rev_at format (maker by time author fixed ++ (change c ++ framed format m)) ≡ Some (Rev by time author fixed c m)
rev_back format by time author fixed c m s n t is f =
    let end : List ℕ = framed format m in
    let behind : List ℕ = change c ++ end in
    let flagged : List ℕ = flag fixed ++ behind in
    let named : List ℕ = text author ++ flagged in
    let timed : List ℕ = number time ++ named in
    ap (rev_at format) (parted (session by) (number time) (text author) (flag fixed) behind)
    ∙ rev_from format by time author fixed c m (session by ++ timed) timed named flagged behind end
    (session_again by timed s) (number_again time named n) (text_again author flagged t) (flag_again fixed behind) (change_again c end is) (framed_back format m f)

nop_back : (by : Session) (time : ℕ) → IsSession by → IsNumber time → nop_at (session by ++ number time) ≡ Some (Nop by time)
nop_back by time s t = nop_from by time (session by ++ number time) (number time) [] (session_again by (number time) s) (number_ends time t)

pub again : (format : ℕ) (r : Record) → IsRecord format r → record_at format (bytes_of format r) ≡ Some r
again format (Open epoch) is = kind_1 format (number epoch) ∙ open_from epoch (number epoch) [] (number_ends epoch is)
again format (Create birth time spacing first) is =
    kind_2 format (number birth ++ (number time ++ (spaced format spacing ++ text first))) ∙ create_back format birth time spacing first is.0 is.1 is.2 is.3
again format (Rev by time author fixed c m) is =
    kind_3 format (maker by time author fixed ++ (change c ++ framed format m)) ∙ rev_back format by time author fixed c m is.0.0 is.0.1 is.0.2 is.1 is.2
again format (Delete time) is = kind_4 format (number time) ∙ delete_from time (number time) [] (number_ends time is)
again format (Public on) is = kind_5 format (flag on) ∙ public_from on (flag on) [] (flag_ends on)
again format (Nop by time) is = kind_6 format (session by ++ number time) ∙ nop_back by time is.0 is.1
again format Format is = kind_7 format

-- ---- no bytes are two

pub same_record : (format : ℕ) (bytes : List ℕ) (r s : Record) → IsEncoding format bytes r → IsEncoding format bytes s → r ≡ s
same_record format bytes r s first second =
    same_Some r s (sym (again format r first.is) ∙ ap (record_at format) (sym first.same) ∙ ap (record_at format) second.same ∙ again format s second.is)

pub same_records : (format : ℕ) (all : List (List ℕ)) (rs ss : List Record) → AreEncodings format all rs → AreEncodings format all ss → rs ≡ ss
same_records format [] [] [] a b = refl
same_records format [] [] (s ∷ ss) a b = absurd b
same_records format [] (r ∷ rs) ss a b = absurd a
same_records format (bytes ∷ all) [] ss a b = absurd a
same_records format (bytes ∷ all) (r ∷ rs) [] a b = absurd b
same_records format (bytes ∷ all) (r ∷ rs) (s ∷ ss) a b =
    let one : r ≡ s = same_record format bytes r s a.0 b.0 in
    let rest : rs ≡ ss = same_records (next_format format r) all rs ss a.1 (subst (λ (x : Record). AreEncodings (next_format format x) all ss) (sym one) b.1) in
    ap₂ (λ (x : Record) (xs : List Record). x ∷ xs) one rest
