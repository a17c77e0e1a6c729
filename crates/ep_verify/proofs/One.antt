-- A file has one verdict.
use Rattle.std.proofs.Common.{◌≡◌, ℕ, zero, suc, ◌<◌, ◌≤◌, Bool, true, false, List, [], ◌∷◌, length, map, take, get_or, Some, refl, sym, ap, ◌∙◌, subst, arith, true≢false}
use Rattle.std.specs.Prelude.{nat_lt}
use Rattle.std.specs.List.{AllByRecursion}
use Rattle.std.proofs.lemmas.Bool.Decides.{nat_tests}
use Rattle.std.proofs.lemmas.List.{take_all}
use Rattle.ep_history.proofs.Refused.{not-less}
use Rattle.ep_history.specs.History.{head, head_doc}
use Rattle.ep_history.specs.Pad.{PadState, newest}
use Rattle.ep_history.specs.Records.{AreNext, IsNext, next_pad, told, told_from, unopened}
use Rattle.ep_history.specs.declared.record.Record.{Record}
use Rattle.ep_journal.specs.File.{is_foreign, records_of, stands_for}
use Rattle.ep_record.specs.Bytes.{bytes_of, IsEncoding, IsRecord}
use Rattle.ep_pad_file.proofs.Standing.{one_list, records_are, record_in_bytes}
use Rattle.ep_pad.specs.Opening.{IsBadAt, IsFront}
use Rattle.ep_verify.specs.Verdicts.{behind, IsWhat, Tells, no_limits}
use Rattle.ep_verify.specs.declared.verdict.What.{What}
use Rattle.ep_verify.specs.declared.verdict.What.TheVariants.{Whole, Absent, Foreign, BadRecord, Behind}

-- no two records have the same bytes
one-record : (bytes : List ℕ) (r q : Record) → IsEncoding bytes r → IsEncoding bytes q → r ≡ q
one-record bytes r q a b = sym (record_in_bytes bytes r a) ∙ record_in_bytes bytes q b

-- of records that may come one behind another none is a first bad one
no-bad : (p : PadState) (rs front : List Record) (bytes : List (List ℕ)) (n k : ℕ) → map bytes_of rs ≡ take n bytes → map bytes_of front ≡ take k bytes
    → AllByRecursion IsRecord rs → AllByRecursion IsRecord front → AreNext p rs → k < n → k < length bytes
    → ((r : Record) → IsEncoding (get_or bytes k []) r → IsNext (told_from p front) r → ⊥) → ⊥
no-bad p rs front [] n k same begins all each next lt below bad = omega (arith, below)
no-bad p rs front (b ∷ bs) zero k same begins all each next lt below bad = omega (arith, lt)
no-bad p [] front (b ∷ bs) (suc n) k same begins all each next lt below bad = absurd (cc)
no-bad p (r ∷ rs) [] (b ∷ bs) (suc n) zero same begins all each next lt below bad =
    let whole : bytes_of r ∷ map bytes_of rs ≡ b ∷ take n bs = same in
    let first : b ≡ bytes_of r = cc in
    bad r (record { is = all.0; same = first }) next.0
no-bad p (r ∷ rs) (q ∷ front) (b ∷ bs) (suc n) zero same begins all each next lt below bad = absurd (cc)
no-bad p (r ∷ rs) [] (b ∷ bs) (suc n) (suc k) same begins all each next lt below bad = absurd (cc)
no-bad p (r ∷ rs) (q ∷ front) (b ∷ bs) (suc n) (suc k) same begins all each next lt below bad =
    let whole : bytes_of r ∷ map bytes_of rs ≡ b ∷ take n bs = same in
    let part : bytes_of q ∷ map bytes_of front ≡ b ∷ take k bs = begins in
    let first : b ≡ bytes_of r = cc in
    let other : b ≡ bytes_of q = cc in
    let rest : map bytes_of rs ≡ take n bs = cc in
    let more : map bytes_of front ≡ take k bs = cc in
    let is = one-record b q r (record { is = each.0; same = other }) (record { is = all.0; same = first }) in
    no-bad (next_pad p r) rs front bs n k rest more all.1 each.1 next.1 (omega (arith, lt)) (omega (arith, below))
    (λ s enc may. bad s enc (subst (λ (x : Record). IsNext (told_from (next_pad p x) front) s) (sym is) may))

front-then-bad : (file : List ℕ) (rs : List Record) (n k : ℕ) → IsFront no_limits file rs n → IsBadAt no_limits file k → k < n → ⊥
front-then-bad file rs n k front bad lt =
    no-bad (unopened no_limits) rs bad.front (records_of file) n k front.bytes bad.are.bytes front.records bad.are.records front.legal lt bad.below bad.bad

-- a file that tells a pad is a journal
not-foreign : (file : List ℕ) (b : Bool) (records : List (List ℕ)) → is_foreign file ≡ b → stands_for file ≡ Some records → b ≡ false
not-foreign file false records is stands = refl
not-foreign file true records is stands = absurd (cc)

tells-none-bad : (file : List ℕ) (pad : PadState) (k : ℕ) → Tells file pad → IsBadAt no_limits file k → ⊥
tells-none-bad file pad k t bad =
    let are = records_are t.records file t.stands in
    front-then-bad file t.records (length (records_of file)) k
    (record { bytes = sym are ∙ sym (take_all (length (records_of file)) (records_of file) (omega arith)); records = t.stands.records; legal = t.legal }) bad bad.below

-- a file tells one pad
one-pad : (file : List ℕ) (p q : PadState) → Tells file p → Tells file q → p ≡ q
one-pad file p q a b =
    let same = one_list one-record a.records b.records a.stands.records b.stands.records (sym (records_are a.records file a.stands) ∙ records_are b.records file b.stands) in
    sym a.are_told ∙ (ap (told no_limits) same ∙ b.are_told)

less : (a b : ℕ) → nat_lt a b ≡ true → a < b
less a b e = grind (arith, nat_tests)

one-bad : (file : List ℕ) (j k : ℕ) → IsBadAt no_limits file j → IsBadAt no_limits file k → j ≡ k
one-bad file j k a b = go (nat_lt j k) refl (nat_lt k j) refl
  where
    go : (s : Bool) → nat_lt j k ≡ s → (t : Bool) → nat_lt k j ≡ t → j ≡ k
    go true e t f = absurd (front-then-bad file b.front k j b.are a (less j k e))
    go false e true f = absurd (front-then-bad file a.front j k a.are b (less k j f))
    go false e false f = let x = not-less j k e in let y = not-less k j f in omega (arith, x, y)

journal-tells : (file : List ℕ) (pad : PadState) → Tells file pad → is_foreign file ≡ false
journal-tells file pad t = not-foreign file (is_foreign file) _ refl t.stands.bytes

-- there, or not
there-or-not : (p q : PadState) → p ≡ q → p.present ≡ true → q.present ≡ false → ⊥
there-or-not p q e a b = true≢false (sym a ∙ (ap (λ (x : PadState). x.present) e ∙ b))

-- few records behind, and many
few-or-many : (m n : ℕ) → m ≤ 1 → 1 < n → n ≡ m → ⊥
few-or-many m n few many is = omega (arith, few, many, is)

pub one : (file : List ℕ) (v w : What) → IsWhat file v → IsWhat file w → v ≡ w
one file (Whole h u) (Whole g t) (p, a, s, few) (q, b, r, fewer) =
    let e = one-pad file p q a b in
    let heads : h ≡ g = s.1 ∙ (ap (λ (x : PadState). head (newest x)) e ∙ sym r.1) in
    let texts : u ≡ t = s.2 ∙ (ap (λ (x : PadState). length (head_doc (newest x))) e ∙ sym r.2) in
    (λ i. Whole (heads i) (texts i))
one file (Whole h u) Absent (p, a, s, few) (q, b, r, fewer) = absurd (there-or-not p q (one-pad file p q a b) s.0 r)
one file (Whole h u) Foreign (p, a, s, few) r = absurd (true≢false (sym r ∙ journal-tells file p a))
one file (Whole h u) (BadRecord k) (p, a, s, few) r = absurd (tells-none-bad file p k a r.1)
one file (Whole h u) (Behind n) (p, a, s, few) (q, b, many, is) = absurd (few-or-many (behind file) n few many is)
one file Absent (Whole g t) (p, a, s, few) (q, b, r, fewer) = absurd (there-or-not q p (one-pad file q p b a) r.0 s)
one file Absent Absent s r = refl
one file Absent Foreign (p, a, s, few) r = absurd (true≢false (sym r ∙ journal-tells file p a))
one file Absent (BadRecord k) (p, a, s, few) r = absurd (tells-none-bad file p k a r.1)
one file Absent (Behind n) (p, a, s, few) (q, b, many, is) = absurd (few-or-many (behind file) n few many is)
one file Foreign (Whole g t) s (q, b, r, fewer) = absurd (true≢false (sym s ∙ journal-tells file q b))
one file Foreign Absent s (q, b, r, fewer) = absurd (true≢false (sym s ∙ journal-tells file q b))
one file Foreign Foreign s r = refl
one file Foreign (BadRecord k) s r = absurd (true≢false (sym s ∙ r.0))
one file Foreign (Behind n) s (q, b, r, fewer) = absurd (true≢false (sym s ∙ journal-tells file q b))
one file (BadRecord j) (Whole g t) s (q, b, r, fewer) = absurd (tells-none-bad file q j b s.1)
one file (BadRecord j) Absent s (q, b, r, fewer) = absurd (tells-none-bad file q j b s.1)
one file (BadRecord j) Foreign s r = absurd (true≢false (sym r ∙ s.0))
one file (BadRecord j) (BadRecord k) s r = ap BadRecord (one-bad file j k s.1 r.1)
one file (BadRecord j) (Behind n) s (q, b, r, fewer) = absurd (tells-none-bad file q j b s.1)
one file (Behind n) (Whole h u) (q, b, many, is) (p, a, s, few) = absurd (few-or-many (behind file) n few many is)
one file (Behind n) Absent (q, b, many, is) (p, a, s, few) = absurd (few-or-many (behind file) n few many is)
one file (Behind n) Foreign (q, b, many, is) r = absurd (true≢false (sym r ∙ journal-tells file q b))
one file (Behind n) (BadRecord k) (q, b, many, is) r = absurd (tells-none-bad file q k b r.1)
one file (Behind n) (Behind m) (q, b, many, is) (p, a, more, so) = ap Behind (is ∙ sym so)
