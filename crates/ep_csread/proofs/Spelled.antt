-- A change is read exactly where the text spells it.
use Rattle.std.proofs.Common.{◌≡◌, ℕ, ◌+◌, ◌-◌, ◌<◌, ◌≤◌, ◌⊎◌, Bool, true, false, cond, eqb, nat_le, nat_lt, ◌&&◌, ◌||◌, List, [], ◌∷◌, ◌++◌, map, length, min, take, drop, Option, Some, None, Result, Ok, Err, refl, sym, ap, ap₂, subst, ◌∙◌, arith, inl, inr}
use Rattle.std.specs.List.{AllByRecursion, flat_map}
use Rattle.std.proofs.lemmas.Bool.Decides.{nat_tests}
use Rattle.std.proofs.lemmas.List.{map-append}
use Rattle.std.proofs.lemmas.List.Concat.{flat_map-cons}
use Rattle.ep_units.specs.Text.{Text, ends_in_newline}
use Rattle.ep_attr.specs.AttrMap.{Pair}
use Rattle.ep_cs.specs.declared.op.Kind.{Kind}
use Rattle.ep_cs.specs.declared.op.Kind.TheVariants as kinds
use Rattle.ep_cs.specs.declared.op.Op.{Op}
use Rattle.ep_cs.specs.Runs.{inserted, all_inserted, all_passed, steps_of}
use Rattle.ep_cs.specs.Change.{Change, change_of}
use Rattle.ep_cs.specs.Fits.{AreDocuments}
use Rattle.ep_csread.specs.declared.bad.ReadBad.{ReadBad}
use Rattle.ep_csread.specs.declared.bad.ReadBad.TheVariants as bad
use Rattle.ep_csread.specs.declared.written.Number.{Number}
use Rattle.ep_csread.specs.Spelling.{Numbered, said}
use Rattle.ep_csread.specs.Syntax.{Operation, Parts, parts_of, attribs_at}
use Rattle.ep_cs.specs.Lines.{count_lines}
use Rattle.ep_csread.specs.Reading.{first_some, first_such, mapped, unless, is_big, is_missing, op_numbers, all_numbers, all_stars, values, resolved, all_resolved, holds_lines, is_lined, first_unlined, first_half, all_dropped, is_difference, has_lengths, largest, numbers_refused, number_refused, missing_refused, star_refused, bank_refused, lines_refused, length_refused, pair_refused, refusals, counted, reading, attribs_refusals, counted_attribs, reading_attribs}
use Rattle.ep_csread.specs.Built.{AreInserts}
use Rattle.ep_csread.specs.Grammar.{Writing, numbers_of_op, AreSmall, AreNamed, HoldLines, HasLines, HaveLines, Leads, AreRight, Spells, SpellsText}
use Rattle.ep_csread.proofs.Building.{all_dropped_within}
use Rattle.ep_csread.proofs.Checked.{first_of_two, second_of_two, none_first, what_is, none_of, bank_none, mapped_none, lengths_are, attribs_insert, inserts_pass, inserts_drop}
use Rattle.ep_csread.proofs.Pieces.{are_pieces, no_half}
use Rattle.ep_csread.proofs.Takes.{text_takes, attribs_take, writing_of}
use Rattle.ep_csread.proofs.Follows.{text_follows, attribs_follow}

-- ---- each number

none_such : (test : Number → Bool) (P : ℕ → Type 0) → ((n : Number) → test n ≡ false → P n.value) → (ns : List Number) → first_such test ns ≡ None → AllByRecursion P (values ns)
none_such test P h [] e = tt
none_such test P h (n ∷ ns) e = go (test n) refl (λ f. none_such test P h ns f) e
  where
    go : (b : Bool) → test n ≡ b → (first_such test ns ≡ None → AllByRecursion P (values ns)) → cond b (Some n) (first_such test ns) ≡ None → AllByRecursion P (values (n ∷ ns))
    go true b again e = absurd cc
    go false b again e = (h n b, again e)

each_passes : (test : Number → Bool) (P : ℕ → Type 0) → ((n : Number) → P n.value → test n ≡ false) → (ns : List Number) → AllByRecursion P (values ns) → first_such test ns ≡ None
each_passes test P h [] a = refl
each_passes test P h (n ∷ ns) a = ap (λ (b : Bool). cond b (Some n) (first_such test ns)) (h n a.0) ∙ each_passes test P h ns a.1

not_big : (n : Number) → is_big n ≡ false → n.value ≤ 4294967295
not_big n e = small n.value e
  where
    small : (v : ℕ) → nat_lt 4294967295 v ≡ false → v ≤ 4294967295
    small v e = grind (arith, nat_tests)

is_small : (n : Number) → n.value ≤ 4294967295 → is_big n ≡ false
is_small n h = small n.value h
  where
    small : (v : ℕ) → v ≤ 4294967295 → nat_lt 4294967295 v ≡ false
    small v h = grind (arith, nat_tests)

not_missing : (k : ℕ) (n : Number) → is_missing k n ≡ false → n.value < k
not_missing k n e = below k n.value e
  where
    below : (k v : ℕ) → nat_le k v ≡ false → v < k
    below k v e = grind (arith, nat_tests)

is_there : (k : ℕ) (n : Number) → n.value < k → is_missing k n ≡ false
is_there k n h = below k n.value h
  where
    below : (k v : ℕ) → v < k → nat_le k v ≡ false
    below k v h = grind (arith, nat_tests)

op_values : (o : Operation) → values (op_numbers o) ≡ numbers_of_op (said o)
op_values o = map-append (λ (n : Number). n.value) o.stars (o.lines ∷ (o.units ∷ []))

ops_values : (os : List Operation) → values (flat_map op_numbers os) ≡ flat_map numbers_of_op (map said os)
ops_values [] = refl
ops_values (o ∷ os) =
    ap values (flat_map-cons op_numbers o os) ∙ map-append (λ (n : Number). n.value) (op_numbers o) (flat_map op_numbers os)
    ∙ ap₂ (λ (a b : List ℕ). a ++ b) (op_values o) (ops_values os) ∙ sym (flat_map-cons numbers_of_op (said o) (map said os))

stars_values : (os : List Operation) → values (all_stars os) ≡ flat_map (λ (o : Numbered). o.stars) (map said os)
stars_values [] = refl
stars_values (o ∷ os) =
    ap values (flat_map-cons (λ (o : Operation). o.stars) o os) ∙ map-append (λ (n : Number). n.value) o.stars (all_stars os)
    ∙ ap (λ (b : List ℕ). values o.stars ++ b) (stars_values os) ∙ sym (flat_map-cons (λ (o : Numbered). o.stars) (said o) (map said os))

all_named : (pool : List Pair) (os : List Operation) → missing_refused pool os ≡ None → AreNamed pool (map said os)
all_named pool os e =
    subst (AllByRecursion (λ (n : ℕ). n < length pool)) (stars_values os)
    (none_such (is_missing (length pool)) (λ (n : ℕ). n < length pool) (not_missing (length pool)) (all_stars os) (mapped_none (λ (n : Number). bad.NoAttr n.value) (first_such (is_missing (length pool)) (all_stars os)) e))

none_missing : (pool : List Pair) (os : List Operation) → AreNamed pool (map said os) → missing_refused pool os ≡ None
none_missing pool os h =
    ap (mapped (λ (n : Number). bad.NoAttr n.value)) (each_passes (is_missing (length pool)) (λ (n : ℕ). n < length pool) (is_there (length pool)) (all_stars os) (subst (AllByRecursion (λ (n : ℕ). n < length pool)) (sym (stars_values os)) h))

all_small : (text : Text) (ns : List Number) → numbers_refused text ns ≡ None → AreSmall (values ns)
all_small text ns e = none_such is_big (λ (n : ℕ). n ≤ 4294967295) not_big ns (mapped_none (λ (n : Number). bad.Number (length text - n.left)) (first_such is_big ns) e)

none_big : (text : Text) (ns : List Number) → AreSmall (values ns) → numbers_refused text ns ≡ None
none_big text ns h = ap (mapped (λ (n : Number). bad.Number (length text - n.left))) (each_passes is_big (λ (n : ℕ). n ≤ 4294967295) is_small ns h)

-- ---- lines

same_number : (a b : ℕ) → eqb a b ≡ true → a ≡ b
same_number a b e = grind (arith, nat_tests)

is_number : (a b : ℕ) → a ≡ b → eqb a b ≡ true
is_number a b e = grind (arith, nat_tests)

at_most : (a b : ℕ) → nat_le a b ≡ true → a ≤ b
at_most a b e = grind (arith, nat_tests)

is_at_most : (a b : ℕ) → a ≤ b → nat_le a b ≡ true
is_at_most a b h = grind (arith, nat_tests)

both : (a b : Bool) → a ≡ true → b ≡ true → (a && b) ≡ true
both true b e h = h
both false b e h = e

newline_ends : (us : Text) → ends_in_newline us ≡ true → (front : Text) × (us ≡ front ++ 10 ∷ [])
newline_ends [] e = absurd cc
newline_ends (u ∷ []) e = ([], ap (λ (v : ℕ). v ∷ []) (same_number u 10 e))
newline_ends (u ∷ (v ∷ us)) e = let n = newline_ends (v ∷ us) e in (u ∷ n.0, ap (λ (t : Text). u ∷ t) n.1)

ends_newline : (front : Text) → ends_in_newline (front ++ 10 ∷ []) ≡ true
ends_newline [] = refl
ends_newline (u ∷ []) = refl
ends_newline (u ∷ (v ∷ us)) = ends_newline (v ∷ us)

hold : (l : ℕ) (us : Text) → holds_lines l us ≡ true → HoldLines l us
hold l us e = (
  same_number (count_lines us) l (first_of_two (eqb (count_lines us) l) (eqb l 0 || ends_in_newline us) e),
  go (eqb l 0) refl (second_of_two (eqb (count_lines us) l) (eqb l 0 || ends_in_newline us) e),
)
  where
    go : (b : Bool) → eqb l 0 ≡ b → (b || ends_in_newline us) ≡ true → (l ≡ 0) ⊎ ((front : Text) × (us ≡ front ++ 10 ∷ []))
    go true b e = inl (same_number l 0 b)
    go false b e = inr (newline_ends us e)

holds : (l : ℕ) (us : Text) → HoldLines l us → holds_lines l us ≡ true
holds l us (count, ends) = both (eqb (count_lines us) l) (eqb l 0 || ends_in_newline us) (is_number (count_lines us) l count) (go (eqb l 0) ends)
  where
    go : (b : Bool) → (l ≡ 0) ⊎ ((front : Text) × (us ≡ front ++ 10 ∷ [])) → (eqb l 0 || ends_in_newline us) ≡ true
    go b (inl z) = ap (λ (c : Bool). c || ends_in_newline us) (is_number l 0 z)
    go b (inr (front, e)) = or_true (eqb l 0) (ends_in_newline us) (ap ends_in_newline e ∙ ends_newline front)
      where
        or_true : (a b : Bool) → b ≡ true → (a || b) ≡ true
        or_true true b e = refl
        or_true false b e = e

lined : (k : Kind) (n l : ℕ) (us : Text) → is_lined k n l us ≡ true → HasLines k n l us
lined kinds.Keep n l us e = at_most l n e
lined kinds.Drop n l us e = at_most l n e
lined kinds.Insert n l us e = (at_most l n (first_of_two (nat_le l n) (holds_lines l us) e), hold l us (second_of_two (nat_le l n) (holds_lines l us) e))

is_lined_so : (k : Kind) (n l : ℕ) (us : Text) → HasLines k n l us → is_lined k n l us ≡ true
is_lined_so kinds.Keep n l us h = is_at_most l n h
is_lined_so kinds.Drop n l us h = is_at_most l n h
is_lined_so kinds.Insert n l us h = both (nat_le l n) (holds_lines l us) (is_at_most l n h.0) (holds l us h.1)

have_lines : (i : ℕ) (os : List Op) (bank : Text) → first_unlined i os bank ≡ None → HaveLines os bank
have_lines i [] bank e = tt
have_lines i (o ∷ os) bank e = go (is_lined o.kind o.units o.lines (take (inserted o.kind o.units) bank)) refl (λ f. have_lines (i + 1) os (drop (inserted o.kind o.units) bank) f) e
  where
    go : (b : Bool) → is_lined o.kind o.units o.lines (take (inserted o.kind o.units) bank) ≡ b → (first_unlined (i + 1) os (drop (inserted o.kind o.units) bank) ≡ None → HaveLines os (drop (inserted o.kind o.units) bank))
        → cond b (first_unlined (i + 1) os (drop (inserted o.kind o.units) bank)) (Some i) ≡ None → HaveLines (o ∷ os) bank
    go true b again e = (lined o.kind o.units o.lines (take (inserted o.kind o.units) bank) b, again e)
    go false b again e = absurd cc

none_unlined : (i : ℕ) (os : List Op) (bank : Text) → HaveLines os bank → first_unlined i os bank ≡ None
none_unlined i [] bank h = refl
none_unlined i (o ∷ os) bank h =
    ap (λ (b : Bool). cond b (first_unlined (i + 1) os (drop (inserted o.kind o.units) bank)) (Some i)) (is_lined_so o.kind o.units o.lines (take (inserted o.kind o.units) bank) h.0)
    ∙ none_unlined (i + 1) os (drop (inserted o.kind o.units) bank) h.1

-- ---- lengths

leads : (s : Bool) (d old new : ℕ) → is_difference s d old new ≡ true → Leads s d old new
leads false d old new e = same_number new (old + d) e
leads true d old new e = same_number (new + d) old e

leads_so : (s : Bool) (d old new : ℕ) → Leads s d old new → is_difference s d old new ≡ true
leads_so false d old new e = is_number new (old + d) e
leads_so true d old new e = is_number (new + d) old e

bank_right : (os : List Op) (bank : Text) → all_inserted os ≡ length bank → bank_refused os bank ≡ None
bank_right os bank e = ap (λ (b : Bool). cond b None (Some (bad.Bank (min (all_inserted os) largest) (length bank)))) (is_number (all_inserted os) (length bank) e)

-- ---- operations that are right

right : (old new : ℕ) (os : List Op) (bank : Text) (c : Change) → bank_refused os bank ≡ None → lines_refused os bank ≡ None → all_passed os ≤ old → new + all_dropped os ≡ old + all_inserted os → new ≤ 4294967295
    → pair_refused os bank ≡ None → change_of old os bank ≡ c → AreRight old new os bank c
right old new os bank c b l passed lengths small p e = record {
  whole = bank_none os bank b;
  lines = have_lines 0 os bank (mapped_none (λ (i : ℕ). bad.Lines i) (first_unlined 0 os bank) l);
  passed = passed;
  lengths = lengths;
  small = small;
  change = sym e;
  pieces = subst (λ (c : Change). AreDocuments c.edit.places c.edit.last) e (are_pieces old os bank (mapped_none (λ (i : ℕ). bad.Pair i) (first_half 0 None (steps_of os bank)) p));
}

record AreRead (os : List Op) (us : Text) (c : Change) (old : ℕ) : Type 0 where
  bank : bank_refused os us ≡ None
  lines : lines_refused os us ≡ None
  pairs : pair_refused os us ≡ None

is_right : (old new : ℕ) (os : List Op) (bank : Text) (c : Change) → AreRight old new os bank c → AreRead os bank c old
is_right old new os bank c r = record {
  bank = bank_right os bank r.whole;
  lines = ap (mapped (λ (i : ℕ). bad.Lines i)) (none_unlined 0 os bank r.lines);
  pairs = ap (mapped (λ (i : ℕ). bad.Pair i)) (no_half old os bank (subst (λ (c : Change). AreDocuments c.edit.places c.edit.last) r.change r.pieces));
}

abbrev okay' : {A : Type 0} → A → Result A ReadBad
okay' x = Ok x

-- nothing is refused
accepted : {A : Type 0} (a b c d e f : Option ReadBad) (x : A) → a ≡ None → b ≡ None → c ≡ None → d ≡ None → e ≡ None → f ≡ None → unless (first_some (a ∷ (b ∷ (c ∷ (d ∷ (e ∷ (f ∷ []))))))) x ≡ okay' x
accepted a b c d e f x p q r s t u = λ i. unless (first_some (p i ∷ (q i ∷ (r i ∷ (s i ∷ (t i ∷ (u i ∷ []))))))) x

record Nothing (a b c d e f : Option ReadBad) : Type 0 where
  first : a ≡ None
  second : b ≡ None
  third : c ≡ None
  fourth : d ≡ None
  fifth : e ≡ None
  sixth : f ≡ None

nothing : (a b c d e f : Option ReadBad) → first_some (a ∷ (b ∷ (c ∷ (d ∷ (e ∷ (f ∷ [])))))) ≡ None → Nothing a b c d e f
nothing a b c d e f h =
    let u = none_of a (b ∷ (c ∷ (d ∷ (e ∷ (f ∷ []))))) h in
    let v = none_of b (c ∷ (d ∷ (e ∷ (f ∷ [])))) u.behind in
    let w = none_of c (d ∷ (e ∷ (f ∷ []))) v.behind in
    let x = none_of d (e ∷ (f ∷ [])) w.behind in
    let y = none_of e (f ∷ []) x.behind in
    let z = none_of f [] y.behind in
    record { first = u.here; second = v.here; third = w.here; fourth = x.here; fifth = y.here; sixth = z.here }

shown : (b : Bool) → cond b None (Some bad.Length) ≡ None → b ≡ true
shown true e = refl
shown false e = absurd cc

small_values : (p : Parts) → AreSmall (values (all_numbers p)) → AreSmall (p.old.value ∷ (p.difference.value ∷ flat_map numbers_of_op (map said p.ops)))
small_values p h = (h.0, (h.1.0, subst AreSmall (ops_values p.ops) h.1.1))

values_small : (p : Parts) → AreSmall (p.old.value ∷ (p.difference.value ∷ flat_map numbers_of_op (map said p.ops))) → AreSmall (values (all_numbers p))
values_small p h = (h.0, (h.1.0, subst AreSmall (sym (ops_values p.ops)) h.1.1))

pub read_spells : (pool : List Pair) (text : Text) (c : Change) → reading pool text ≡ Ok c → Spells pool text c
read_spells pool text c e = go (parts_of text) refl e
  where
    go : (r : Result Parts ℕ) → parts_of text ≡ r → counted pool text r ≡ Ok c → Spells pool text c
    go (Err left) i e = absurd cc
    go (Ok p) i e =
        let os = all_resolved pool p.ops in
        let x = change_of p.old.value os p.bank in
        let all = first_some (refusals pool text p) in
        let n = nothing (number_refused text p) (star_refused pool p) (bank_refused os p.bank) (lines_refused os p.bank) (length_refused p os) (pair_refused os p.bank) (none_first all x c e) in
        let h = lengths_are p.old.value p.shrinks p.difference.value os (shown (has_lengths p.old.value p.shrinks p.difference.value os) n.fifth) in
        let new : ℕ = p.old.value - all_dropped os + all_inserted os in
        record {
          writing = writing_of p;
          new = new;
          written = text_takes text p i;
          numbers = small_values p (all_small text (all_numbers p) n.first);
          named = all_named pool p.ops n.second;
          difference = leads p.shrinks p.difference.value p.old.value new h.said;
          right = right p.old.value new os p.bank c n.third n.fourth h.inside (omega (arith, h.inside, all_dropped_within os)) h.short n.sixth (what_is all x c e);
        }

pub spells_read : (pool : List Pair) (text : Text) (c : Change) → Spells pool text c → reading pool text ≡ Ok c
spells_read pool text c s =
    let f = text_follows s.writing text s.written in
    let p : Parts = f.0 in
    let w : s.writing ≡ writing_of p = sym f.2 in
    let os = all_resolved pool p.ops in
    let r : AreRight p.old.value s.new os p.bank c = subst (λ (w : Writing). AreRight w.old s.new (map (resolved pool) w.ops) w.bank c) w s.right in
    let q = is_right p.old.value s.new os p.bank c r in
    let new : p.old.value - all_dropped os + all_inserted os ≡ s.new = omega (arith, r.passed, r.lengths, all_dropped_within os) in
    let difference : Leads p.shrinks p.difference.value p.old.value s.new = subst (λ (w : Writing). Leads w.shrinks w.difference w.old s.new) w s.difference in
    let lengths : has_lengths p.old.value p.shrinks p.difference.value os ≡ true =
    both (nat_le (all_passed os) p.old.value) (is_difference p.shrinks p.difference.value p.old.value (p.old.value - all_dropped os + all_inserted os) && nat_le (p.old.value - all_dropped os + all_inserted os) 4294967295)
    (is_at_most (all_passed os) p.old.value r.passed)
    (both (is_difference p.shrinks p.difference.value p.old.value (p.old.value - all_dropped os + all_inserted os)) (nat_le (p.old.value - all_dropped os + all_inserted os) 4294967295)
    (ap (is_difference p.shrinks p.difference.value p.old.value) new ∙ leads_so p.shrinks p.difference.value p.old.value s.new difference)
    (is_at_most (p.old.value - all_dropped os + all_inserted os) 4294967295 (omega (arith, new, r.small)))) in
    ap (counted pool text) f.1
    ∙ accepted (number_refused text p) (star_refused pool p) (bank_refused os p.bank) (lines_refused os p.bank) (length_refused p os) (pair_refused os p.bank) (change_of p.old.value os p.bank)
    (none_big text (all_numbers p) (values_small p (subst (λ (w : Writing). AreSmall (w.old ∷ (w.difference ∷ flat_map numbers_of_op w.ops))) w s.numbers)))
    (none_missing pool p.ops (subst (λ (w : Writing). AreNamed pool w.ops) w s.named))
    q.bank q.lines (ap (λ (b : Bool). cond b None (Some bad.Length)) lengths) q.pairs
    ∙ ap okay' (sym r.change)

-- ---- attributed text

pub read_spells_text : (pool : List Pair) (text attribs : Text) (c : Change) → reading_attribs pool text attribs ≡ Ok c → SpellsText pool text attribs c
read_spells_text pool text attribs c e = go (attribs_at attribs) refl e
  where
    inserts_said : (os : List Operation) → AreInserts os → AllByRecursion (λ (o : Numbered). o.kind ≡ kinds.Insert) (map said os)
    inserts_said [] h = tt
    inserts_said (o ∷ os) h = (h.0, inserts_said os h.1)

    go : (r : Result (List Operation × Text) ℕ) → attribs_at attribs ≡ r → counted_attribs pool text attribs r ≡ Ok c → SpellsText pool text attribs c
    go (Err left) i e = absurd cc
    go (Ok y) i e =
        let os = all_resolved pool y.0 in
        let x = change_of 0 os text in
        let all = first_some (attribs_refusals pool text attribs y.0) in
        let n = nothing (numbers_refused attribs (flat_map op_numbers y.0)) (missing_refused pool y.0) (bank_refused os text) (lines_refused os text) (cond (nat_le (length text) 4294967295) None (Some bad.Length)) (pair_refused os text) (none_first all x c e) in
        let inserts = attribs_insert attribs y i in
        let passed = inserts_pass pool y.0 inserts in
        record {
          ops = map said y.0;
          written = attribs_take attribs y i;
          inserts = inserts_said y.0 inserts;
          numbers = subst AreSmall (ops_values y.0) (all_small attribs (flat_map op_numbers y.0) n.first);
          named = all_named pool y.0 n.second;
          right = right 0 (length text) os text c n.third n.fourth (omega (arith, passed)) (omega (arith, bank_none os text n.third, inserts_drop pool y.0 inserts)) (at_most (length text) 4294967295 (shown (nat_le (length text) 4294967295) n.fifth)) n.sixth (what_is all x c e);
        }

pub spells_text_read : (pool : List Pair) (text attribs : Text) (c : Change) → SpellsText pool text attribs c → reading_attribs pool text attribs ≡ Ok c
spells_text_read pool text attribs c s =
    let f = attribs_follow s.ops attribs s.written s.inserts in
    let w : s.ops ≡ map said f.item = sym f.seen in
    let os = all_resolved pool f.item in
    let r : AreRight 0 (length text) os text c = subst (λ (os : List Numbered). AreRight 0 (length text) (map (resolved pool) os) text c) w s.right in
    let q = is_right 0 (length text) os text c r in
    ap (counted_attribs pool text attribs) f.is
    ∙ accepted (numbers_refused attribs (flat_map op_numbers f.item)) (missing_refused pool f.item) (bank_refused os text) (lines_refused os text) (cond (nat_le (length text) 4294967295) None (Some bad.Length)) (pair_refused os text) (change_of 0 os text)
    (none_big attribs (flat_map op_numbers f.item) (subst AreSmall (sym (ops_values f.item)) (subst (λ (os : List Numbered). AreSmall (flat_map numbers_of_op os)) w s.numbers)))
    (none_missing pool f.item (subst (AreNamed pool) w s.named))
    q.bank q.lines (ap (λ (b : Bool). cond b None (Some bad.Length)) (is_at_most (length text) 4294967295 r.small)) q.pairs
    ∙ ap okay' (sym r.change)

abbrev got : Change → Result Change ReadBad → Change
got d (Ok x) = x
got d (Err why) = d

pub one_change : (pool : List Pair) (text : Text) (c d : Change) → Spells pool text c → Spells pool text d → c ≡ d
one_change pool text c d s t = ap (got c) (sym (spells_read pool text c s) ∙ spells_read pool text d t)

pub one_text_change : (pool : List Pair) (text attribs : Text) (c d : Change) → SpellsText pool text attribs c → SpellsText pool text attribs d → c ≡ d
one_text_change pool text attribs c d s t = ap (got c) (sym (spells_text_read pool text attribs c s) ∙ spells_text_read pool text attribs d t)
