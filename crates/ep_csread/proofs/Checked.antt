-- What checks that refuse nothing have shown.
use Rattle.std.proofs.Common.{◌≡◌, ℕ, ◌+◌, ◌-◌, ◌<◌, ◌≤◌, Bool, true, false, cond, eqb, nat_le, ◌&&◌, not, List, [], ◌∷◌, ◌++◌, length, take, drop, min, Option, Some, None, Result, Ok, Err, refl, sym, ap, subst, ◌∙◌, arith}
use Rattle.std.specs.List.{flat_map}
use Rattle.std.proofs.lemmas.Bool.Decides.{nat_tests}
use Rattle.ep_units.specs.Text.{Text, is_high, is_low, is_paired, is_well_formed}
use Rattle.ep_attr.specs.AttrMap.{AttrMap, Pair, none}
use Rattle.ep_cs.specs.declared.op.Kind.{Kind}
use Rattle.ep_cs.specs.declared.op.Kind.TheVariants as kinds
use Rattle.ep_cs.specs.declared.op.Op.{Op}
use Rattle.ep_cs.specs.Runs.{inserted, passed, all_inserted, all_passed, steps_of}
use Rattle.ep_cs.specs.NormalRuns.{AreLined}
use Rattle.ep_cs.proofs.Drafts.{once}
use Rattle.ep_csread.specs.declared.bad.ReadBad.{ReadBad}
use Rattle.ep_csread.specs.declared.bad.ReadBad.TheVariants as bad
use Rattle.ep_csread.specs.Spelling.{said}
use Rattle.ep_csread.specs.Syntax.{Operation, Parts, parts_of, attrib_at, attribs_at, is_some_text}
use Rattle.ep_csread.specs.Grammar.{AreItems, sign}
use Rattle.ep_csread.specs.Reading.{first_some, first_such, mapped, unless, is_big, op_numbers, all_numbers, map_from, map_for, all_resolved, holds_lines, is_lined, first_unlined, first_half, dropped, all_dropped, is_difference, has_lengths, largest, missing_refused, bank_refused, lines_refused, pair_refused}
use Rattle.ep_csread.specs.Built.{NewHasNoEmpty, NewHaveNoEmpty, AreInserts}
use Rattle.ep_csread.proofs.Cuts.{same_cut}
use Rattle.ep_csread.proofs.Named.{small_first}
use Rattle.ep_csread.proofs.Takes.{Takes, items_take, attrib_takes, attrib_inserts, text_takes, writing_of}
use Rattle.ep_csread.specs.Before.{first_cut}
use Rattle.ep_csread.specs.Views.{attribs_read, syntax_read}

pub first_of_two : (a b : Bool) → (a && b) ≡ true → a ≡ true
first_of_two true b e = refl
first_of_two false b e = e

pub second_of_two : (a b : Bool) → (a && b) ≡ true → b ≡ true
second_of_two true b e = e
second_of_two false b e = absurd cc

-- ---- the bank of a well-formed text

after_front : (front rest : Text) (half : Bool) → is_paired half (front ++ rest) ≡ true → (half : Bool) × (is_paired half rest ≡ true)
after_front [] rest half e = (half, e)
after_front (u ∷ us) rest half e = after_front us rest (is_high u) (second_of_two (cond half (is_low u) (not (is_low u))) _ e)

after_unit : (u : ℕ) (us : Text) (half : Bool) → is_paired half (u ∷ us) ≡ true → is_paired (is_high u) us ≡ true
after_unit u us half e = second_of_two (cond half (is_low u) (not (is_low u))) _ e

pub bank_whole : (text : Text) (p : Parts) → parts_of text ≡ Ok p → is_well_formed text ≡ true → is_well_formed p.bank ≡ true
bank_whole text p e w =
    let t = text_takes text p e in
    let q = writing_of p in
    let rest : Text = t.old ++ (sign q.shrinks ∷ (t.difference ++ (t.ops ++ 36 ∷ q.bank))) in
    let a = after_unit 58 rest false (after_unit 90 (58 ∷ rest) false (ap is_well_formed (sym t.whole) ∙ w)) in
    let b = after_front t.old (sign q.shrinks ∷ (t.difference ++ (t.ops ++ 36 ∷ q.bank))) false a in
    let c = after_unit (sign q.shrinks) (t.difference ++ (t.ops ++ 36 ∷ q.bank)) b.0 b.1 in
    let d = after_front t.difference (t.ops ++ 36 ∷ q.bank) (is_high (sign q.shrinks)) c in
    let f = after_front t.ops (36 ∷ q.bank) d.0 d.1 in
    after_unit 36 q.bank f.0 f.1

-- ---- refusals in their order

pub none_first : {A : Type 0} (o : Option ReadBad) (x y : A) → unless o x ≡ Ok y → o ≡ None
none_first None x y e = refl
none_first (Some why) x y e = absurd cc

abbrev got : {A : Type 0} → A → Result A ReadBad → A
got d (Ok x) = x
got d (Err why) = d

pub what_is : {A : Type 0} (o : Option ReadBad) (x y : A) → unless o x ≡ Ok y → x ≡ y
what_is None x y e = ap (got x) e
what_is (Some why) x y e = absurd cc

pub record AreNone (a : Option ReadBad) (rest : List (Option ReadBad)) : Type 0 where
  pub here : a ≡ None
  pub behind : first_some rest ≡ None

pub none_of : (a : Option ReadBad) (rest : List (Option ReadBad)) → first_some (a ∷ rest) ≡ None → AreNone a rest
none_of None rest e = record { here = refl; behind = e }
none_of (Some why) rest e = absurd cc

pub skipped : (a : Option ReadBad) (rest : List (Option ReadBad)) → a ≡ None → first_some (a ∷ rest) ≡ first_some rest
skipped None rest e = refl
skipped (Some why) rest e = absurd cc

pub refused_so : (a : Option ReadBad) (rest : List (Option ReadBad)) (why : ReadBad) → a ≡ Some why → first_some (a ∷ rest) ≡ Some why
refused_so None rest why e = absurd cc
refused_so (Some w) rest why e = e

-- the first of these, with others behind them
pub before_others : (xs bs : List (Option ReadBad)) (why : ReadBad) → first_some xs ≡ Some why → first_some (xs ++ bs) ≡ Some why
before_others [] bs why e = absurd cc
before_others (None ∷ xs) bs why e = before_others xs bs why e
before_others (Some w ∷ xs) bs why e = e

pub all_none : (xs bs : List (Option ReadBad)) → first_some xs ≡ None → first_some (xs ++ bs) ≡ first_some bs
all_none [] bs e = refl
all_none (None ∷ xs) bs e = all_none xs bs e
all_none (Some w ∷ xs) bs e = absurd cc

abbrev why_of : {A : Type 0} → Result A ReadBad → Option ReadBad
why_of (Ok x) = None
why_of (Err w) = Some w

pub what_refuses : {A : Type 0} (o : Option ReadBad) (x : A) (why : ReadBad) → unless o x ≡ Err why → o ≡ Some why
what_refuses None x why e = absurd cc
what_refuses (Some w) x why e = ap why_of e

-- ---- what each check shows

same_number : (a b : ℕ) → eqb a b ≡ true → a ≡ b
same_number a b e = grind (arith, nat_tests)

at_most : (a b : ℕ) → nat_le a b ≡ true → a ≤ b
at_most a b e = grind (arith, nat_tests)

pub bank_none : (os : List Op) (bank : Text) → bank_refused os bank ≡ None → all_inserted os ≡ length bank
bank_none os bank e = go (all_inserted os) (length bank) (eqb (all_inserted os) (length bank)) (bad.Bank (min (all_inserted os) largest) (length bank)) refl e
  where
    go : (a b : ℕ) (c : Bool) (w : ReadBad) → eqb a b ≡ c → cond c None (Some w) ≡ None → a ≡ b
    go a b true w t e = same_number a b t
    go a b false w t e = absurd cc

lined_is : (k : Kind) (n l : ℕ) (us : Text) → is_lined k n l us ≡ true → l ≤ n
lined_is kinds.Keep n l us e = at_most l n e
lined_is kinds.Drop n l us e = at_most l n e
lined_is kinds.Insert n l us e = at_most l n (first_of_two (nat_le l n) (holds_lines l us) e)

pub all_lined : (i : ℕ) (os : List Op) (bank : Text) → first_unlined i os bank ≡ None → AreLined os
all_lined i [] bank e = tt
all_lined i (o ∷ os) bank e = go (is_lined o.kind o.units o.lines (take (inserted o.kind o.units) bank)) refl (λ f. all_lined (i + 1) os (drop (inserted o.kind o.units) bank) f) e
  where
    go : (b : Bool) → is_lined o.kind o.units o.lines (take (inserted o.kind o.units) bank) ≡ b → (first_unlined (i + 1) os (drop (inserted o.kind o.units) bank) ≡ None → AreLined os)
        → cond b (first_unlined (i + 1) os (drop (inserted o.kind o.units) bank)) (Some i) ≡ None → AreLined (o ∷ os)
    go true b again e = (lined_is o.kind o.units o.lines (take (inserted o.kind o.units) bank) b, again e)
    go false b again e = absurd cc

pub mapped_none : {A B : Type 0} (f : A → B) (o : Option A) → mapped f o ≡ None → o ≡ None
mapped_none f None e = refl
mapped_none f (Some x) e = absurd cc

pub lines_none : (os : List Op) (bank : Text) → lines_refused os bank ≡ None → AreLined os
lines_none os bank e = all_lined 0 os bank (mapped_none (λ (i : ℕ). bad.Lines i) (first_unlined 0 os bank) e)

no_empty_for : (k : Kind) (m : AttrMap) → NewHasNoEmpty k (map_for k m)
no_empty_for kinds.Keep m = tt
no_empty_for kinds.Drop m = tt
no_empty_for kinds.Insert m = once m

pub all_no_empty : (pool : List Pair) (os : List Operation) → NewHaveNoEmpty (all_resolved pool os)
all_no_empty pool [] = tt
all_no_empty pool (o ∷ os) = (no_empty_for o.kind (map_from pool none (said o).stars), all_no_empty pool os)

pub record HasLengths (old : ℕ) (shrinks : Bool) (difference : ℕ) (os : List Op) : Type 0 where
  pub inside : all_passed os ≤ old
  pub said : is_difference shrinks difference old (old - all_dropped os + all_inserted os) ≡ true
  pub short : old - all_dropped os + all_inserted os ≤ 4294967295

pub lengths_are : (old : ℕ) (shrinks : Bool) (difference : ℕ) (os : List Op) → has_lengths old shrinks difference os ≡ true → HasLengths old shrinks difference os
lengths_are old shrinks difference os e =
    let new : ℕ = old - all_dropped os + all_inserted os in
    let a = second_of_two (nat_le (all_passed os) old) (is_difference shrinks difference old new && nat_le new 4294967295) e in
    record {
      inside = at_most (all_passed os) old (first_of_two (nat_le (all_passed os) old) (is_difference shrinks difference old new && nat_le new 4294967295) e);
      said = first_of_two (is_difference shrinks difference old new) (nat_le new 4294967295) a;
      short = at_most new 4294967295 (second_of_two (is_difference shrinks difference old new) (nat_le new 4294967295) a);
    }

-- in a well-formed bank a pair is cut only between two insertions
pub cut_is : (os : List Op) (bank : Text) → is_well_formed bank ≡ true → all_inserted os ≡ length bank → first_half 0 None (steps_of os bank) ≡ first_cut 0 None os bank
cut_is os bank w e = same_cut os bank 0 false none None w e (λ (x : false ≡ true). absurd cc)

-- the numbers of the operations of a text whose numbers are all small
pub record AreSmallParts (p : Parts) : Type 0 where
  pub old : p.old.value < 4294967296
  pub difference : p.difference.value < 4294967296
  pub ops : first_such is_big (flat_map op_numbers p.ops) ≡ None

pub small_parts : (p : Parts) → first_such is_big (all_numbers p) ≡ None → AreSmallParts p
small_parts p e =
    let a = small_first p.old (p.difference ∷ flat_map op_numbers p.ops) e in
    let b = small_first p.difference (flat_map op_numbers p.ops) a.rest in
    record { old = a.below; difference = b.below; ops = b.rest }

pub cut_found : {A : Type 0} (os : List Op) (bank : Text) (x : A) (at : ℕ) → is_well_formed bank ≡ true → all_inserted os ≡ length bank → Some at ≡ first_cut 0 None os bank → unless (pair_refused os bank) x ≡ Err (bad.Pair at)
cut_found os bank x at w e cut = ap (λ (o : Option ℕ). unless (mapped (λ (i : ℕ). bad.Pair i) o) x) (cut_is os bank w e ∙ sym cut)

pub cut_nowhere : {A : Type 0} (os : List Op) (bank : Text) (x : A) → is_well_formed bank ≡ true → all_inserted os ≡ length bank → None ≡ first_cut 0 None os bank → unless (pair_refused os bank) x ≡ Ok x
cut_nowhere os bank x w e cut = ap (λ (o : Option ℕ). unless (mapped (λ (i : ℕ). bad.Pair i) o) x) (cut_is os bank w e ∙ sym cut)

pub spread_lined : (pool : List Pair) (written : List Operation) (bank : Text) (made : List Op)
    → unless (first_some (missing_refused pool written ∷ (bank_refused (all_resolved pool written) bank ∷ (lines_refused (all_resolved pool written) bank ∷ [])))) (all_resolved pool written) ≡ Ok made → AreLined made
spread_lined pool written bank made e =
    let os = all_resolved pool written in
    let o = first_some (missing_refused pool written ∷ (bank_refused os bank ∷ (lines_refused os bank ∷ []))) in
    let x = none_of (missing_refused pool written) (bank_refused os bank ∷ (lines_refused os bank ∷ [])) (none_first o os made e) in
    let y = none_of (bank_refused os bank) (lines_refused os bank ∷ []) x.behind in
    let z = none_of (lines_refused os bank) [] y.behind in
    subst AreLined (what_is o os made e) (lines_none os bank z.here)

pub spread_no_empty : (o : Option ReadBad) (pool : List Pair) (os : List Operation) (made : List Op) → unless o (all_resolved pool os) ≡ Ok made → NewHaveNoEmpty made
spread_no_empty o pool os made e = subst NewHaveNoEmpty (what_is o (all_resolved pool os) made e) (all_no_empty pool os)

pub syntax_ok : (text : Text) (r : Result Parts ℕ) (p : Parts) → syntax_read text r ≡ Ok p → r ≡ Ok p
syntax_ok text (Ok q) p e = ap (λ (p : Parts). okay p) (ap (got q) e)
  where
    okay : Parts → Result Parts ℕ
    okay p = Ok p
syntax_ok text (Err left) p e = absurd cc

-- ---- attributed text

pub attribs_ok : (text : Text) (r : Result (List Operation × Text) ℕ) (os : List Operation) → attribs_read text r ≡ Ok os → (rest : Text) × (r ≡ Ok (os, rest))
attribs_ok text (Ok x) os e = (x.1, ap (λ (os : List Operation). okay (os, x.1)) (ap (got x.0) e))
  where
    okay : List Operation × Text → Result (List Operation × Text) ℕ
    okay p = Ok p
attribs_ok text (Err left) os e = absurd cc

inserts_of : (os : List Operation) (t : Text) → AreItems (λ (o : Operation) (us : Text). o.kind ≡ kinds.Insert) os t → AreInserts os
inserts_of [] t e = tt
inserts_of (o ∷ os) t (first, rest, whole, is, others) = (is, inserts_of os rest others)

pub attribs_insert : (t : Text) (x : List Operation × Text) → attribs_at t ≡ Ok x → AreInserts x.0
attribs_insert t x e =
    let s = items_take (λ (o : Operation) (us : Text). o.kind ≡ kinds.Insert) is_some_text attrib_at one t x e in
    inserts_of x.0 s.0.front s.0.is
  where
    one : (t : Text) (y : Operation × Text) → is_some_text t ≡ true → attrib_at t ≡ Ok y → Takes (λ (o : Operation) (us : Text). o.kind ≡ kinds.Insert) t y
    one t y m e = let k = attrib_takes t y e in record { front = k.front; whole = k.whole; is = attrib_inserts t y e }

pub inserts_pass : (pool : List Pair) (os : List Operation) → AreInserts os → all_passed (all_resolved pool os) ≡ 0
inserts_pass pool [] h = refl
inserts_pass pool (o ∷ os) h =
    ap (λ (k : Kind). passed k o.units.value + all_passed (all_resolved pool os)) h.0 ∙ omega (arith, inserts_pass pool os h.1)

pub inserts_drop : (pool : List Pair) (os : List Operation) → AreInserts os → all_dropped (all_resolved pool os) ≡ 0
inserts_drop pool [] h = refl
inserts_drop pool (o ∷ os) h =
    ap (λ (k : Kind). dropped k o.units.value + all_dropped (all_resolved pool os)) h.0 ∙ omega (arith, inserts_drop pool os h.1)

-- spread operations that insert all of a text
pub record InsertAll (made : List Op) (text : Text) : Type 0 where
  pub passed : all_passed made ≡ 0
  pub dropped : all_dropped made ≡ 0
  pub inserted : all_inserted made ≡ length text

pub spread_inserts : (pool : List Pair) (written : List Operation) (bank : Text) (made : List Op) → AreInserts written
    → unless (first_some (missing_refused pool written ∷ (bank_refused (all_resolved pool written) bank ∷ (lines_refused (all_resolved pool written) bank ∷ [])))) (all_resolved pool written) ≡ Ok made → InsertAll made bank
spread_inserts pool written bank made h e =
    let os = all_resolved pool written in
    let o = first_some (missing_refused pool written ∷ (bank_refused os bank ∷ (lines_refused os bank ∷ []))) in
    let x = none_of (missing_refused pool written) (bank_refused os bank ∷ (lines_refused os bank ∷ [])) (none_first o os made e) in
    let y = none_of (bank_refused os bank) (lines_refused os bank ∷ []) x.behind in
    subst (λ (made : List Op). InsertAll made bank) (what_is o os made e) (record {
      passed = inserts_pass pool written h;
      dropped = inserts_drop pool written h;
      inserted = bank_none os bank y.here;
    })
