-- What is brought to normal form is in normal form.
use Rattle.std.proofs.Common.{◌≡◌, ℕ, suc, ◌+◌, ◌-◌, ◌<◌, ◌≤◌, Bool, true, false, cond, not, ◌&&◌, ◌⊎◌, inl, inr, List, [], ◌∷◌, ◌++◌, length, take, drop, refl, sym, ap, ◌∙◌, subst, arith, take-append-drop}
use Rattle.ep_units.specs.Text.{Text, is_newline}
use Rattle.ep_attr.specs.AttrMap.{AttrMap, none, is_none, same_map, after}
use Rattle.ep_cs.specs.Edit.{edit_of}
use Rattle.ep_cs.specs.declared.op.Kind.{Kind}
use Rattle.ep_cs.specs.declared.op.Kind.TheVariants as kind
use Rattle.ep_cs.specs.declared.op.Op.{Op}
use Rattle.ep_cs.specs.Runs.{cells, inserted, steps_of, all_passed, rest_kept}
use Rattle.ep_cs.specs.Normal.{same_kind, joins, joined, put, one, put_cells}
use Rattle.ep_cs.specs.Change.{change_of, newlines}
use Rattle.ep_cs.specs.NormalRuns.{precedes, is_insert_then_drop, IsLined, IsRun, AreNormal}
use Rattle.ep_cs.specs.Written.{front_of, put_front, normal_of, IsWritten, AreWritten, IsFinished}
use Rattle.ep_cs.proofs.Put.{run, not3, lined, lined_is, lined_first, lined_none}
use Rattle.ep_cs.proofs.Canonical.{IsLined-before, not_true, first_of_two, second_of_two, canonical}
use Rattle.ep_cs.proofs.Fronts.{AreDrops, NoDrop, head_is_drop, IsFront, is_front, put-drops, cells_no_drop, runs_of_written}
use Rattle.ep_cs.proofs.SameEdit.{same_edit}

not_false : (b : Bool) → b ≡ false → not b ≡ true
not_false b e = ap not e

two : (a b : Bool) → a ≡ true → b ≡ true → (a && b) ≡ true
two a b e f = λ i. e i && f i

joined_precedes : (o p : Op) (ps : List Op) → precedes p ps ≡ true → precedes (joined o p) ps ≡ true
joined_precedes o p [] h = h
joined_precedes o p (q ∷ qs) h =
    let other : joins (joined o p) q ≡ false =
    not3 (same_kind p.kind q.kind) (same_map p.attrs q.attrs) (lined q.lines p.lines) (lined q.lines (o.lines + p.lines)) (λ t. less (lined_is q.lines (o.lines + p.lines) t)) (not_true (joins p q) (first_of_two _ _ h)) in
    two _ _ (not_false _ other) (second_of_two _ _ h)
  where
    less : (0 < q.lines) ⊎ (o.lines + p.lines ≡ 0) → lined q.lines p.lines ≡ true
    less (inl x) = lined_first q.lines p.lines x
    less (inr x) = ap (lined q.lines) (let s : p.lines ≡ 0 = omega arith in s) ∙ lined_none q.lines

normal_keep : (n l : ℕ) (m : AttrMap) (xs : List Op) (bank : Text) → 1 ≤ n → AreNormal xs bank → AreNormal (put (run kind.Keep n l m) xs) bank
normal_keep n l m [] bank h normal = go (is_none m) refl
  where
    go : (b : Bool) → is_none m ≡ b → AreNormal (cond b [] (run kind.Keep n l m ∷ [])) bank
    go true e = normal
    go false e = (h, not_false _ e, normal)
normal_keep n l m (p ∷ ps) bank h normal = go p.kind p.units (joins (run kind.Keep n l m) p) refl normal.0 (λ e. joined_precedes (run kind.Keep n l m) p ps normal.1) normal
  where
    go : (k : Kind) (u : ℕ) (b : Bool) → (same_kind kind.Keep k && (same_map m p.attrs && lined p.lines l)) ≡ b → IsRun k u p.lines p.attrs (take (inserted k u) bank)
        → (b ≡ b → precedes (run k (n + u) (l + p.lines) p.attrs) ps ≡ true) → AreNormal (run k u p.lines p.attrs ∷ ps) bank
        → AreNormal (cond b (run k (n + u) (l + p.lines) p.attrs ∷ ps) (run kind.Keep n l m ∷ (run k u p.lines p.attrs ∷ ps))) bank
    go kind.Keep u true e is before whole = (omega (arith, is), before refl, whole.2)
    go kind.Drop u true e is before whole = absurd cc
    go kind.Insert u true e is before whole = absurd cc
    go kind.Keep u false e is before whole = (h, two _ _ (not_false _ e) refl, whole)
    go kind.Drop u false e is before whole = (h, refl, whole)
    go kind.Insert u false e is before whole = (h, refl, whole)

normal_drop : (n l : ℕ) (xs : List Op) (bank : Text) → 1 ≤ n → AreNormal xs bank → AreNormal (put (run kind.Drop n l none) xs) bank
normal_drop n l [] bank h normal = ((h, refl), refl, normal)
normal_drop n l (p ∷ ps) bank h normal = go p.kind p.units (joins (run kind.Drop n l none) p) refl normal.0 (λ e. joined_precedes (run kind.Drop n l none) p ps normal.1) normal
  where
    go : (k : Kind) (u : ℕ) (b : Bool) → (same_kind kind.Drop k && (same_map none p.attrs && lined p.lines l)) ≡ b → IsRun k u p.lines p.attrs (take (inserted k u) bank)
        → (b ≡ b → precedes (run k (n + u) (l + p.lines) p.attrs) ps ≡ true) → AreNormal (run k u p.lines p.attrs ∷ ps) bank
        → AreNormal (cond b (run k (n + u) (l + p.lines) p.attrs ∷ ps) (run kind.Drop n l none ∷ (run k u p.lines p.attrs ∷ ps))) bank
    go kind.Drop u true e is before whole = ((omega (arith, is.0), is.1), before refl, whole.2)
    go kind.Keep u true e is before whole = absurd cc
    go kind.Insert u true e is before whole = absurd cc
    go kind.Drop u false e is before whole = ((h, refl), two _ _ (not_false _ e) refl, whole)
    go kind.Keep u false e is before whole = ((h, refl), refl, whole)
    go kind.Insert u false e is before whole = ((h, refl), refl, whole)

abbrev mark : ℕ → ℕ
mark u = cond (is_newline u) 1 0

normal_unit : (u : ℕ) (m : AttrMap) (xs : List Op) (bank : Text) → m ≡ after none m → NoDrop xs → AreNormal xs bank → AreNormal (put (one kind.Insert m (mark u)) xs) (u ∷ bank)
normal_unit u m [] bank h free normal = ((refl, refl, h), refl, normal)
normal_unit u m (p ∷ ps) bank h free normal = go p.kind p.units (joins (one kind.Insert m (mark u)) p) refl free normal.0 (λ e. joined_precedes (one kind.Insert m (mark u)) p ps normal.1) normal
  where
    go : (k : Kind) (n : ℕ) (b : Bool) → (same_kind kind.Insert k && (same_map m p.attrs && lined p.lines (mark u))) ≡ b → head_is_drop k ≡ false → IsRun k n p.lines p.attrs (take (inserted k n) bank)
        → (b ≡ b → precedes (run k (1 + n) (mark u + p.lines) p.attrs) ps ≡ true) → AreNormal (run k n p.lines p.attrs ∷ ps) bank
        → AreNormal (cond b (run k (1 + n) (mark u + p.lines) p.attrs ∷ ps) (one kind.Insert m (mark u) ∷ (run k n p.lines p.attrs ∷ ps))) (u ∷ bank)
    go kind.Insert n true e d is before whole =
        let s : 1 + n ≡ suc n = omega arith in
        let fits : lined p.lines (mark u) ≡ true = second_of_two _ _ (second_of_two true _ e) in
        let zero_or : (mark u ≡ 0) ⊎ (1 ≤ p.lines) = elim (lined_is p.lines (mark u) fits) as (λ _. (mark u ≡ 0) ⊎ (1 ≤ p.lines)) [ inl x ↦ inr x | inr x ↦ inl x ] in
        subst (λ (k : ℕ). ((length (take k (u ∷ bank)) ≡ k) × IsLined (mark u + p.lines) (newlines (take k (u ∷ bank))) × (p.attrs ≡ after none p.attrs)) × (precedes (run kind.Insert k (mark u + p.lines) p.attrs) ps ≡ true) × AreNormal ps (drop k (u ∷ bank))) (sym s)
        ((ap suc is.0, IsLined-before (mark u) p.lines (newlines (take n bank)) is.1 zero_or, is.2), subst (λ (k : ℕ). precedes (run kind.Insert k (mark u + p.lines) p.attrs) ps ≡ true) s (before refl), whole.2)
    go kind.Keep n true e d is before whole = absurd cc
    go kind.Drop n true e d is before whole = absurd cc
    go kind.Insert n false e d is before whole = ((refl, refl, h), two _ _ (not_false _ e) refl, whole)
    go kind.Keep n false e d is before whole = ((refl, refl, h), refl, whole)
    go kind.Drop n false e d is before whole = absurd cc

normal_cells : (m : AttrMap) (us : Text) (xs : List Op) (bank : Text) → m ≡ after none m → NoDrop xs → AreNormal xs bank → AreNormal (put_cells (cells m us) xs) (us ++ bank)
normal_cells m [] xs bank h free normal = normal
normal_cells m (u ∷ us) xs bank h free normal = normal_unit u m (put_cells (cells m us) xs) (us ++ bank) h (cells_no_drop (cells m us) xs free) (normal_cells m us xs bank h free normal)

rest_normal : (ds xs : List Op) (bank : Text) → AreDrops ds → AreNormal (ds ++ xs) bank → AreNormal xs bank
rest_normal [] xs bank h normal = normal
rest_normal (d ∷ ds) xs bank h normal = go d.kind h.0 (λ n. rest_normal ds xs bank h.2 n) normal.2
  where
    go : (k : Kind) → k ≡ kind.Drop → (AreNormal (ds ++ xs) bank → AreNormal xs bank) → AreNormal (ds ++ xs) (drop (inserted k d.units) bank) → AreNormal xs bank
    go kind.Keep e again n = absurd cc
    go kind.Insert e again n = absurd cc
    go kind.Drop e again n = again n

drop_precedes : (d : Op) (ys : List Op) → d.kind ≡ kind.Drop → NoDrop ys → precedes d ys ≡ true
drop_precedes d ys e h = go d.kind e ys h
  where
    go : (k : Kind) → k ≡ kind.Drop → (ys : List Op) → NoDrop ys → precedes (run k d.units d.lines d.attrs) ys ≡ true
    go kind.Keep e ys h = absurd cc
    go kind.Insert e ys h = absurd cc
    go kind.Drop e [] h = refl
    go kind.Drop e (y ∷ ys) h = inner y.kind h
      where
        inner : (j : Kind) → head_is_drop j ≡ false → (not (same_kind kind.Drop j && (same_map d.attrs y.attrs && lined y.lines d.lines)) && not (is_insert_then_drop kind.Drop j)) ≡ true
        inner kind.Keep e = refl
        inner kind.Insert e = refl
        inner kind.Drop e = absurd cc

other_rest : (ds xs ys : List Op) (bank later : Text) → AreDrops ds → NoDrop ys → AreNormal (ds ++ xs) bank → AreNormal ys later → AreNormal (ds ++ ys) later
other_rest [] xs ys bank later h free normal rest = rest
other_rest (d ∷ ds) xs ys bank later h free normal rest = go d.kind h.0 normal.0 (before ds normal.1) (λ n. other_rest ds xs ys bank later h.2 free n rest) normal.2
  where
    before : (ds : List Op) → precedes d (ds ++ xs) ≡ true → precedes d (ds ++ ys) ≡ true
    before [] e = drop_precedes d ys h.0 free
    before (q ∷ qs) e = e

    go : (k : Kind) → k ≡ kind.Drop → IsRun k d.units d.lines d.attrs (take (inserted k d.units) bank) → precedes d (ds ++ ys) ≡ true → (AreNormal (ds ++ xs) bank → AreNormal (ds ++ ys) later) → AreNormal (ds ++ xs) (drop (inserted k d.units) bank)
        → IsRun k d.units d.lines d.attrs (take (inserted k d.units) later) × (precedes d (ds ++ ys) ≡ true) × AreNormal (ds ++ ys) (drop (inserted k d.units) later)
    go kind.Keep e is p again n = absurd cc
    go kind.Insert e is p again n = absurd cc
    go kind.Drop e is p again n = (is, p, again n)

pub is_normal : (ops : List Op) (bank : Text) → AreWritten ops bank → AreNormal (normal_of ops bank) bank
is_normal [] bank h = h
is_normal (o ∷ os) bank h = go o.kind o.attrs h.0 (is_front os (drop (inserted o.kind o.units) bank) h.1) (is_normal os (drop (inserted o.kind o.units) bank) h.1)
  where
    go : (k : Kind) (m : AttrMap) → IsWritten k o.units m (take (inserted k o.units) bank) → IsFront (front_of os (drop (inserted k o.units) bank)) → AreNormal (normal_of os (drop (inserted k o.units) bank)) (drop (inserted k o.units) bank)
        → AreNormal ((put_front k (run k o.units o.lines m) (take (inserted k o.units) bank) (front_of os (drop (inserted k o.units) bank))).drops ++ (put_front k (run k o.units o.lines m) (take (inserted k o.units) bank) (front_of os (drop (inserted k o.units) bank))).rest) bank
    go kind.Keep m is front ih = normal_keep o.units o.lines m (normal_of os bank) bank is ih
    go kind.Drop m is front ih =
        let f = front_of os bank in
        let e : put (run kind.Drop o.units o.lines none) (f.drops ++ f.rest) ≡ put (run kind.Drop o.units o.lines m) f.drops ++ f.rest =
        put-drops o.units o.lines f.drops f.rest front.rest ∙ ap (λ m. put (run kind.Drop o.units o.lines m) f.drops ++ f.rest) (sym is.1) in
        subst (λ os. AreNormal os bank) e (normal_drop o.units o.lines (f.drops ++ f.rest) bank is.0 ih)
    go kind.Insert m is front ih =
        let text = take o.units bank in
        let later = drop o.units bank in
        let f = front_of os later in
        let here = normal_cells m text f.rest later is.1 front.rest (rest_normal f.drops f.rest later front.drops ih) in
        other_rest f.drops f.rest (put_cells (cells m text) f.rest) later bank front.drops (cells_no_drop (cells m text) f.rest front.rest) ih
        (subst (λ b. AreNormal (put_cells (cells m text) f.rest) b) (take-append-drop o.units bank) here)

pub finished : (n : ℕ) (ops : List Op) (bank : Text) → AreWritten ops bank → all_passed ops ≤ n → IsFinished n ops bank (normal_of ops bank)
finished n ops bank h inside =
    let e = same_edit ops bank (n - all_passed ops) h in
    let l : e.left ≡ n - all_passed (normal_of ops bank) = omega (arith, e.all) in
    let normal = is_normal ops bank h in
    let edits : edit_of (steps_of ops bank ++ rest_kept (n - all_passed ops)) ≡ edit_of (steps_of (normal_of ops bank) bank ++ rest_kept (n - all_passed (normal_of ops bank))) =
    e.same [] ∙ ap (λ (r : ℕ). edit_of (steps_of (normal_of ops bank) bank ++ rest_kept r)) l in
    let runs : (change_of n (normal_of ops bank) bank).runs ≡ (change_of n ops bank).runs = canonical n (normal_of ops bank) bank normal ∙ sym (runs_of_written n ops bank h) in
    record { inside = omega (arith, e.all); normal = normal; same = λ i. record { edit = sym edits i; runs = runs i } }
