-- A change that is spelled is read again.
use Rattle.std.proofs.Common.{◌≡◌, ℕ, suc, ◌+◌, ◌-◌, ◌<◌, ◌≤◌, Bool, true, false, true≢false, cond, ◌&&◌, ◌||◌, eqb, List, [], ◌∷◌, ◌++◌, map, length, take, drop, min, nat_lt, nat_le, Option, Some, None, Result, Ok, refl, sym, ap, ap₂, ◌∙◌, subst, ◌⊎◌, inl, inr, arith, length-append, take-append-drop}
use Rattle.std.proofs.lemmas.Bool.Decides.{nat_tests}
use Rattle.std.specs.List.{flat_map, list_all}
use Rattle.std.specs.Ordering.{eq_by_cmp}
use Rattle.std.specs.FinMap.Entries.{find}
use Rattle.std.proofs.lemmas.List.Concat.{flat_map-cons}
use Rattle.ep_units.specs.Text.{Text, is_newline, text_cmp, ends_in_newline}
use Rattle.ep_attr.specs.AttrMap.{AttrMap, Pair, none, get, is_value}
use Rattle.ep_attr.proofs.Maps.{exact_test}
use Rattle.ep_attr.proofs.SameMap.{first_true, second_true}
use Rattle.ep_pool.specs.Pool.{has, same_pair}
use Rattle.ep_pool.proofs.Gathering.{same_pair_is}
use Rattle.ep_cs.specs.declared.op.Kind.{Kind}
use Rattle.ep_cs.specs.declared.op.Kind.TheVariants as kinds
use Rattle.ep_cs.specs.declared.op.Op.{Op}
use Rattle.ep_cs.specs.Lines.{count_lines}
use Rattle.ep_cs.specs.Runs.{inserted, passed, all_inserted, all_passed, steps_of}
use Rattle.ep_cs.specs.Change.{Change, change_of, newlines}
use Rattle.ep_cs.specs.NormalRuns.{IsLined, IsRun, AreNormal, AreLined}
use Rattle.ep_csread.specs.declared.bad.ReadBad.{ReadBad}
use Rattle.ep_csread.specs.declared.bad.ReadBad.TheVariants as bad
use Rattle.ep_csread.specs.declared.written.Number.{Number}
use Rattle.ep_csread.specs.Syntax.{Operation, Parts}
use Rattle.ep_csread.specs.Spelling.{Numbered, said, numbers_from, has_pairs}
use Rattle.ep_csread.specs.Reading.{mapped, largest, first_such, first_some, op_numbers, all_numbers, all_stars, is_big, map_for, resolved, all_resolved, holds_lines, is_lined, first_unlined, first_half, is_difference, dropped, all_dropped, has_lengths, number_refused, bank_refused, lines_refused, pair_refused, unless, counted, reading, counted_attribs, reading_attribs}
use Rattle.ep_csread.proofs.Again.{parts_again, attribs_again, AreSmall, IsSmall, AreSmallOps, AreInserts, spelled, ops_text as numbered_text}
use Rattle.ep_csread.proofs.Maps.{Has, HasMap, numbered, resolved_again}

abbrev pub new_length : ℕ → List Op → ℕ
new_length old os = old - all_dropped os + all_inserted os

-- runs as they are written: with so many old units, and the bank
abbrev pub spelled_runs : List Pair → ℕ → List Op → Text → Text
spelled_runs pool old os bank =
    let new : ℕ = new_length old os in
    spelled old (nat_lt new old) (cond (nat_lt new old) (old - new) (new - old)) (map (numbered pool) os) bank

-- ---- no number is too big

small_is : (n : ℕ) → n < 4294967296 → nat_lt 4294967295 n ≡ false
small_is n h = grind (arith, nat_tests)

first_such-append : {A : Type 0} (test : A → Bool) (a b : List A) → first_such test a ≡ None → first_such test b ≡ None → first_such test (a ++ b) ≡ None
first_such-append test [] b h k = k
first_such-append test (x ∷ a) b h k = go (λ e. first_such-append test a b e k) (test x) h
  where
    go : (first_such test a ≡ None → first_such test (a ++ b) ≡ None) → (c : Bool) → cond c (Some x) (first_such test a) ≡ None → cond c (Some x) (first_such test (a ++ b)) ≡ None
    go again true e = absurd cc
    go again false e = again e

no_big_stars : (ns : List Number) → AreSmall (map (λ (n : Number). n.value) ns) → first_such is_big ns ≡ None
no_big_stars [] h = refl
no_big_stars (n ∷ ns) h = ap (λ c. cond c (Some n) (first_such is_big ns)) (small_is n.value h.0) ∙ no_big_stars ns h.1

no_big_op : (o : Operation) → IsSmall (said o) → first_such is_big (op_numbers o) ≡ None
no_big_op o h =
    first_such-append is_big o.stars (o.lines ∷ (o.units ∷ [])) (no_big_stars o.stars h.stars)
    (ap (λ c. cond c (Some o.lines) (cond (is_big o.units) (Some o.units) None)) (small_is o.lines.value h.lines) ∙ ap (λ c. cond c (Some o.units) None) (small_is o.units.value h.units))

no_big_ops : (os : List Operation) → AreSmallOps (map said os) → first_such is_big (flat_map op_numbers os) ≡ None
no_big_ops [] h = refl
no_big_ops (o ∷ os) h = ap (first_such is_big) (flat_map-cons op_numbers o os) ∙ first_such-append is_big (op_numbers o) (flat_map op_numbers os) (no_big_op o h.0) (no_big_ops os h.1)

-- ---- each number is the pool's

abbrev AreBelow : ℕ → List ℕ → Type 0
AreBelow k [] = Unit {0}
AreBelow k (n ∷ ns) = (n < k) × AreBelow k ns

abbrev StarsBelow : ℕ → List Numbered → Type 0
StarsBelow k [] = Unit {0}
StarsBelow k (o ∷ os) = AreBelow k o.stars × StarsBelow k os

numbers_below : (i : ℕ) (ps : List Pair) (m : AttrMap) (k : ℕ) → i + length ps ≤ k → AreBelow k (numbers_from i ps m)
numbers_below i [] m k h = tt
numbers_below i (p ∷ ps) m k h = go (is_value p.1 (get m p.0)) (numbers_below (suc i) ps m k (omega arith))
  where
    go : (b : Bool) → AreBelow k (numbers_from (suc i) ps m) → AreBelow k (cond b (i ∷ numbers_from (suc i) ps m) (numbers_from (suc i) ps m))
    go true below = (omega arith, below)
    go false below = below

stars_below : (pool : List Pair) (os : List Op) → StarsBelow (length pool) (map (numbered pool) os)
stars_below pool [] = tt
stars_below pool (o ∷ os) = (numbers_below 0 pool o.attrs (length pool) (omega arith), stars_below pool os)

none_missing : (k : ℕ) (ns : List Number) → AreBelow k (map (λ (n : Number). n.value) ns) → first_such (λ (n : Number). nat_le k n.value) ns ≡ None
none_missing k [] h = refl
none_missing k (n ∷ ns) h =
    let t : nat_le k n.value ≡ false = let l : n.value < k = h.0 in grind (arith, nat_tests) in
    ap (λ c. cond c (Some n) (first_such (λ (n : Number). nat_le k n.value) ns)) t ∙ none_missing k ns h.1

stars_there : (k : ℕ) (os : List Operation) → StarsBelow k (map said os) → first_such (λ (n : Number). nat_le k n.value) (all_stars os) ≡ None
stars_there k [] h = refl
stars_there k (o ∷ os) h =
    ap (first_such (λ (n : Number). nat_le k n.value)) (flat_map-cons (λ (o : Operation). o.stars) o os)
    ∙ first_such-append (λ (n : Number). nat_le k n.value) o.stars (all_stars os) (none_missing k o.stars h.0) (stars_there k os h.1)

-- ---- the bank and the newlines

pub all_there : (os : List Op) (bank : Text) → AreNormal os bank → all_inserted os ≡ length bank
all_there [] bank h = sym (ap length h)
all_there (o ∷ os) bank h = go o.kind h.0 (λ b n. all_there os b n) h.2
  where
    go : (k : Kind) → IsRun k o.units o.lines o.attrs (take (inserted k o.units) bank) → ((b : Text) → AreNormal os b → all_inserted os ≡ length b) → AreNormal os (drop (inserted k o.units) bank) → inserted k o.units + all_inserted os ≡ length bank
    go kinds.Keep is again n = omega (arith, again bank n)
    go kinds.Drop is again n = omega (arith, again bank n)
    go kinds.Insert is again n =
        let parts : take o.units bank ++ drop o.units bank ≡ bank = take-append-drop o.units bank in
        omega (arith, again (drop o.units bank) n, is.0, length-append (take o.units bank) (drop o.units bank), ap length parts)

last_is : (u : ℕ) (us : Text) (lines : ℕ) → IsLined lines (newlines (u ∷ us)) → (count_lines (u ∷ us) ≡ lines) × ((lines ≡ 0) ⊎ (ends_in_newline (u ∷ us) ≡ true))
last_is u [] lines h = go (is_newline u) h
  where
    go : (b : Bool) → lines ≡ cond b 1 0 → (cond b 1 0 + 0 ≡ lines) × ((lines ≡ 0) ⊎ (b ≡ true))
    go true e = (omega arith, inr refl)
    go false e = (omega arith, inl e)
last_is u (v ∷ us) lines h =
    let again = last_is v us h.0 h.3 in (
      omega (arith, again.0, h.1),
      elim again.1 as (λ _. (lines ≡ 0) ⊎ (ends_in_newline (v ∷ us) ≡ true)) [
        | inl z ↦ elim h.2 as (λ _. (lines ≡ 0) ⊎ (ends_in_newline (v ∷ us) ≡ true)) [ inl y ↦ inl (omega (arith, h.1)) | inr y ↦ absurd (omega arith) ]
        | inr e ↦ inr e
      ],
    )

same_number : (a b : ℕ) → a ≡ b → eqb a b ≡ true
same_number a b h = grind (arith, nat_tests)

lined_holds : (us : Text) (lines : ℕ) → IsLined lines (newlines us) → holds_lines lines us ≡ true
lined_holds [] lines h = absurd h
lined_holds (u ∷ us) lines h =
    let l = last_is u us lines h in
    let a : eqb (count_lines (u ∷ us)) lines ≡ true = same_number _ _ l.0 in
    let b : (eqb lines 0 || ends_in_newline (u ∷ us)) ≡ true = elim l.1 as (λ _. (eqb lines 0 || ends_in_newline (u ∷ us)) ≡ true) [
      | inl z ↦ ap (λ c. c || ends_in_newline (u ∷ us)) (same_number lines 0 z)
      | inr e ↦ or_right (eqb lines 0) (ends_in_newline (u ∷ us)) e
    ] in
    λ i. a i && b i
  where
    or_right : (a b : Bool) → b ≡ true → (a || b) ≡ true
    or_right true b e = refl
    or_right false b e = e

none_unlined : (i : ℕ) (os : List Op) (bank : Text) → AreLined os → AreNormal os bank → first_unlined i os bank ≡ None
none_unlined i [] bank h n = refl
none_unlined i (o ∷ os) bank h n =
    ap (λ c. cond c (first_unlined (i + 1) os (drop (inserted o.kind o.units) bank)) (Some i)) (go o.kind n.0)
    ∙ none_unlined (i + 1) os (drop (inserted o.kind o.units) bank) h.1 n.2
  where
    le : nat_le o.lines o.units ≡ true
    le = let l : o.lines ≤ o.units = h.0 in grind (arith, nat_tests)

    go : (k : Kind) → IsRun k o.units o.lines o.attrs (take (inserted k o.units) bank) → is_lined k o.units o.lines (take (inserted k o.units) bank) ≡ true
    go kinds.Keep is = le
    go kinds.Drop is = le
    go kinds.Insert is = let t = lined_holds (take o.units bank) o.lines is.1 in λ i. le i && t i

-- ---- the lengths

dropped_passed : (os : List Op) → all_dropped os ≤ all_passed os
dropped_passed [] = omega arith
dropped_passed (o ∷ os) = go o.kind (dropped_passed os)
  where
    go : (k : Kind) → all_dropped os ≤ all_passed os → dropped k o.units + all_dropped os ≤ passed k o.units + all_passed os
    go kinds.Keep h = omega arith
    go kinds.Drop h = omega arith
    go kinds.Insert h = omega arith

lengths_right : (old : ℕ) (os : List Op) → all_passed os ≤ old → new_length old os < 4294967296
    → has_lengths old (nat_lt (new_length old os) old) (cond (nat_lt (new_length old os) old) (old - new_length old os) (new_length old os - old)) os ≡ true
lengths_right old os inside small =
    let new : ℕ = new_length old os in
    let a : nat_le (all_passed os) old ≡ true = grind (arith, nat_tests) in
    let b : nat_le (new_length old os) 4294967295 ≡ true = grind (arith, nat_tests) in
    let c = difference (nat_lt (new_length old os) old) refl in
    λ i. a i && (c i && b i)
  where
    difference : (s : Bool) → nat_lt (new_length old os) old ≡ s → is_difference s (cond s (old - new_length old os) (new_length old os - old)) old (new_length old os) ≡ true
    difference true e = let l : new_length old os < old = grind (arith, nat_tests) in same_number _ _ (omega arith)
    difference false e = let l : old ≤ new_length old os = grind (arith, nat_tests) in same_number _ _ (omega arith)

-- ---- the whole

abbrev pub AllMaps : List Pair → List Op → Type 0
AllMaps pool [] = Unit {0}
AllMaps pool (o ∷ os) = HasMap pool o.attrs × (map_for o.kind o.attrs ≡ o.attrs) × AllMaps pool os

pub record IsSpelled (pool : List Pair) (old : ℕ) (os : List Op) (bank : Text) : Type 0 where
  pub normal : AreNormal os bank
  pub lined : AreLined os
  pub inside : all_passed os ≤ old
  pub old_small : old < 4294967296
  pub new_small : new_length old os < 4294967296
  pub small : AreSmallOps (map (numbered pool) os)
  pub maps : AllMaps pool os
  pub pairs : first_half 0 None (steps_of os bank) ≡ None

resolved_all : (pool : List Pair) (os : List Op) → AllMaps pool os → map (resolved pool) (map (numbered pool) os) ≡ os
resolved_all pool [] h = refl
resolved_all pool (o ∷ os) h = ap₂ (λ (p : Op) (ps : List Op). p ∷ ps) (resolved_again pool o h.0 h.1) (resolved_all pool os h.2)

abbrev mapped_number : Text → Option Number → Option ReadBad
mapped_number text o = mapped (λ (n : Number). bad.Number (length text - n.left)) o

abbrev mapped_star : Option Number → Option ReadBad
mapped_star o = mapped (λ (n : Number). bad.NoAttr n.value) o

abbrev mapped_lines : Option ℕ → Option ReadBad
mapped_lines o = mapped (λ (i : ℕ). bad.Lines i) o

abbrev mapped_pair : Option ℕ → Option ReadBad
mapped_pair o = mapped (λ (i : ℕ). bad.Pair i) o

abbrev okays_bad : Change → Result Change ReadBad
okays_bad c = Ok c

no_big : (p : Parts) (old difference : ℕ) (os : List Numbered) → p.old.value ≡ old → p.difference.value ≡ difference → map said p.ops ≡ os → old < 4294967296 → difference < 4294967296 → AreSmallOps os → first_such is_big (all_numbers p) ≡ None
no_big p old difference os e f g a b c =
    ap (λ t. cond t (Some p.old) (cond (is_big p.difference) (Some p.difference) (first_such is_big (flat_map op_numbers p.ops)))) (small_is p.old.value (omega arith))
    ∙ ap (λ t. cond t (Some p.difference) (first_such is_big (flat_map op_numbers p.ops))) (small_is p.difference.value (omega arith))
    ∙ no_big_ops p.ops (subst AreSmallOps (sym g) c)

small_difference : (s : Bool) (old new : ℕ) → old < 4294967296 → new < 4294967296 → cond s (old - new) (new - old) < 4294967296
small_difference true old new h k = omega arith
small_difference false old new h k = omega arith

accepted : {A : Type 0} (a b c d e f : Option ReadBad) (x : A) → a ≡ None → b ≡ None → c ≡ None → d ≡ None → e ≡ None → f ≡ None → unless (first_some (a ∷ (b ∷ (c ∷ (d ∷ (e ∷ (f ∷ []))))))) x ≡ Ok x
accepted a b c d e f x ha hb hc hd he hf = λ i. unless (first_some (ha i ∷ (hb i ∷ (hc i ∷ (hd i ∷ (he i ∷ (hf i ∷ []))))))) x

pub read_again : (pool : List Pair) (old : ℕ) (os : List Op) (bank : Text) → IsSpelled pool old os bank → reading pool (spelled_runs pool old os bank) ≡ Ok (change_of old os bank)
read_again pool old os bank h =
    let new : ℕ = new_length old os in
    let shrinks = nat_lt new old in
    let difference = cond shrinks (old - new) (new - old) in
    let text = spelled_runs pool old os bank in
    let x = parts_again old shrinks difference (map (numbered pool) os) bank h.old_small (small_difference (nat_lt (new_length old os) old) old (new_length old os) h.old_small h.new_small) h.small in
    let p = x.0 in
    let ops_are : all_resolved pool p.ops ≡ os = ap (map (resolved pool)) x.5 ∙ resolved_all pool os h.maps in
    ap (counted pool text) x.1
    ∙ accepted (number_refused text p) _ _ _ _ _ _
    (ap (λ (o : Option Number). mapped_number text o) (no_big p old _ _ x.2 x.4 x.5 h.old_small (small_difference (nat_lt (new_length old os) old) old (new_length old os) h.old_small h.new_small) h.small))
    (ap (λ (o : Option Number). mapped_star o) (stars_there (length pool) p.ops (subst (StarsBelow (length pool)) (sym x.5) (stars_below pool os))))
    (ap₂ (λ (os : List Op) (b : Text). bank_refused os b) ops_are x.6 ∙ ap (λ c. cond c None (Some (bad.Bank (min (all_inserted os) largest) (length bank)))) (same_number _ _ (all_there os bank h.normal)))
    (ap₂ (λ (os : List Op) (b : Text). lines_refused os b) ops_are x.6 ∙ ap mapped_lines (none_unlined 0 os bank h.lined h.normal))
    (ap (λ (c : Bool). cond c None (Some bad.Length)) ((λ i. has_lengths (x.2 i) (x.3 i) (x.4 i) (ops_are i)) ∙ lengths_right old os h.inside h.new_small))
    (ap₂ (λ (os : List Op) (b : Text). pair_refused os b) ops_are x.6 ∙ ap mapped_pair h.pairs)
    ∙ (λ i. okays_bad (change_of (x.2 i) (ops_are i) (x.6 i)))

-- ---- a whole text, as its operations alone

pub read_again_alone : (pool : List Pair) (os : List Op) (bank : Text) → IsSpelled pool 0 os bank → AreInserts (map (numbered pool) os) → length bank < 4294967296
    → reading_attribs pool bank (numbered_text (map (numbered pool) os)) ≡ Ok (change_of 0 os bank)
read_again_alone pool os bank h inserts short =
    let text = numbered_text (map (numbered pool) os) in
    let x = attribs_again (map (numbered pool) os) h.small inserts in
    let ops_are : all_resolved pool x.0 ≡ os = ap (map (resolved pool)) x.2 ∙ resolved_all pool os h.maps in
    let few : nat_le (length bank) 4294967295 ≡ true = grind (arith, nat_tests) in
    ap (counted_attribs pool bank text) x.1
    ∙ accepted _ _ _ _ _ _ _
    (ap (λ (o : Option Number). mapped_number text o) (no_big_ops x.0 (subst AreSmallOps (sym x.2) h.small)))
    (ap (λ (o : Option Number). mapped_star o) (stars_there (length pool) x.0 (subst (StarsBelow (length pool)) (sym x.2) (stars_below pool os))))
    (ap (λ (os : List Op). bank_refused os bank) ops_are ∙ ap (λ c. cond c None (Some (bad.Bank (min (all_inserted os) largest) (length bank)))) (same_number _ _ (all_there os bank h.normal)))
    (ap (λ (os : List Op). lines_refused os bank) ops_are ∙ ap mapped_lines (none_unlined 0 os bank h.lined h.normal))
    (ap (λ (c : Bool). cond c None (Some bad.Length)) few)
    (ap (λ (os : List Op). pair_refused os bank) ops_are ∙ ap mapped_pair h.pairs)
    ∙ (λ i. okays_bad (change_of 0 (ops_are i) bank))

pub all_inserts : (pool : List Pair) (os : List Op) (bank : Text) → AreNormal os bank → all_passed os ≤ 0 → AreInserts (map (numbered pool) os)
all_inserts pool [] bank h none = tt
all_inserts pool (o ∷ os) bank h none =
    (go o.kind h.0 (let z : passed o.kind o.units ≤ 0 = omega arith in z), all_inserts pool os (drop (inserted o.kind o.units) bank) h.2 (omega arith))
  where
    go : (k : Kind) → IsRun k o.units o.lines o.attrs (take (inserted k o.units) bank) → passed k o.units ≤ 0 → k ≡ kinds.Insert
    go kinds.Keep is z = absurd (let some : 1 ≤ o.units = is in omega arith)
    go kinds.Drop is z = absurd (let some : 1 ≤ o.units = is.0 in omega arith)
    go kinds.Insert is z = refl

-- ---- of a change in normal form

has_is : (pool : List Pair) (p : Pair) → has pool p ≡ true → Has pool p.0 p.1
has_is [] p e = absurd (true≢false (sym e))
has_is (q ∷ pool) p e = go (same_pair p q) refl e (λ t. has_is pool p t)
  where
    go : (b : Bool) → same_pair p q ≡ b → (b || has pool p) ≡ true → (has pool p ≡ true → Has pool p.0 p.1) → ((q.0 ≡ p.0) × (q.1 ≡ p.1)) ⊎ Has pool p.0 p.1
    go true s e again = let q_is = sym (same_pair_is p q s) in inl (ap (λ (x : Pair). x.0) q_is, ap (λ (x : Pair). x.1) q_is)
    go false s e again = inr (again e)

has_all : (pool ps : List Pair) (k v : Text) → list_all (has pool) ps ≡ true → find text_cmp k ps ≡ Some v → Has pool k v
has_all pool [] k v all e = absurd cc
has_all pool (p ∷ ps) k v all e =
    go (eq_by_cmp text_cmp k p.0) refl (has_is pool p (first_true _ _ all)) (λ e. has_all pool ps k v (second_true (has pool p) _ all) e) e
  where
    go : (b : Bool) → eq_by_cmp text_cmp k p.0 ≡ b → Has pool p.0 p.1 → (find text_cmp k ps ≡ Some v → Has pool k v) → cond b (Some p.1) (find text_cmp k ps) ≡ Some v → Has pool k v
    go true t here again e =
        let k_is : p.0 ≡ k = sym (exact_test k p.0 t) in
        let v_is : p.1 ≡ v = cc in
        subst (λ (x : Text × Text). Has pool x.0 x.1) (λ i. (k_is i, v_is i)) here
    go false t here again e = again e

pub all_maps : (pool : List Pair) (os : List Op) (bank : Text) → has_pairs pool os ≡ true → AreNormal os bank → AllMaps pool os
all_maps pool [] bank all h = tt
all_maps pool (o ∷ os) bank all h = (
  record { has = λ k v e. has_all pool o.attrs.pairs k v (first_true _ _ all) e },
  fit o.kind h.0,
  all_maps pool os (drop (inserted o.kind o.units) bank) (second_true (list_all (has pool) o.attrs.pairs) _ all) h.2,
)
  where
    fit : (k : Kind) → IsRun k o.units o.lines o.attrs (take (inserted o.kind o.units) bank) → map_for k o.attrs ≡ o.attrs
    fit kinds.Keep is = refl
    fit kinds.Drop is = sym is.1
    fit kinds.Insert is = sym is.2

small_numbers : (i : ℕ) (ps : List Pair) (m : AttrMap) → i + length ps ≤ 4294967296 → AreSmall (numbers_from i ps m)
small_numbers i [] m h = tt
small_numbers i (p ∷ ps) m h = go (is_value p.1 (get m p.0)) (small_numbers (suc i) ps m (omega arith))
  where
    go : (b : Bool) → AreSmall (numbers_from (suc i) ps m) → AreSmall (cond b (i ∷ numbers_from (suc i) ps m) (numbers_from (suc i) ps m))
    go true rest = (omega arith, rest)
    go false rest = rest

pub small_ops : (pool : List Pair) (os : List Op) (k : ℕ) → length pool ≤ 4294967296 → AreLined os → all_passed os ≤ k → all_inserted os ≤ k → k < 4294967296 → AreSmallOps (map (numbered pool) os)
small_ops pool [] k few lined p i s = tt
small_ops pool (o ∷ os) k few lined p i s =
    let units : o.units ≤ k = of o.kind p i in (
      record { stars = small_numbers 0 pool o.attrs (omega arith); lines = omega (arith, lined.0); units = omega arith },
      small_ops pool os k few lined.1 (omega arith) (omega arith) s,
    )
  where
    of : (x : Kind) → passed x o.units + all_passed os ≤ k → inserted x o.units + all_inserted os ≤ k → o.units ≤ k
    of kinds.Keep p i = omega arith
    of kinds.Drop p i = omega arith
    of kinds.Insert p i = omega arith
