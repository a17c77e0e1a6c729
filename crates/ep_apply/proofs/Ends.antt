-- The pairs that a change cuts end with one of its runs.
use Rattle.std.proofs.Common.{◌≡◌, ℕ, zero, suc, ◌+◌, ◌≤◌, Bool, true, false, cond, not, ◌&&◌, ◌⊎◌, inl, inr, List, [], ◌∷◌, ◌++◌, length, take, drop, Option, Some, None, if◌then◌else◌, refl, sym, ap, ◌∙◌, arith, append_assoc, append-nil, length-drop}
use Rattle.std.proofs.lemmas.Bool.Decides.{nat_tests}
use Rattle.ep_units.specs.Text.{Text, is_high, is_newline}
use Rattle.ep_attr.specs.AttrMap.{AttrMap, none, is_none, same_map}
use Rattle.ep_attr.proofs.SameMap.{same_map_itself}
use Rattle.ep_cs.specs.Doc.{Cell}
use Rattle.ep_cs.specs.Edit.{Fate, Step, settle}
use Rattle.ep_cs.specs.Edit.Fate.{Drop, Keep}
use Rattle.ep_cs.specs.Fits.{same_fate, goes_on}
use Rattle.ep_cs.specs.declared.op.Kind.{Kind}
use Rattle.ep_cs.specs.declared.op.Kind.TheVariants as kind
use Rattle.ep_cs.specs.declared.op.Op.{Op}
use Rattle.ep_cs.specs.Runs.{cells, inserted, passed, run_steps, op_steps, steps_of, all_passed, rest_kept}
use Rattle.ep_cs.specs.Normal.{joins, same_kind}
use Rattle.ep_cs.specs.NormalRuns.{IsLined, IsRun, AreNormal, AreTrue, IsTrueRun, precedes, is_insert_then_drop}
use Rattle.ep_cs.specs.Change.{newlines}
use Rattle.ep_cs.proofs.Put.{run, lined, lined_none}
use Rattle.ep_cs.proofs.Canonical.{times, settle-inserts, begins_no_drop, not_true, first_of_two, second_of_two}
use Rattle.ep_cs.specs.Fitting.{first_cut}
use Rattle.ep_block_parts.specs.Seen.{ends_high}
use Rattle.ep_apply.specs.PairEnds.{first_end}

-- a stretch of places with one fate, which go on into one another
abbrev pub step_end : ℕ → ℕ → Bool → Bool → Option ℕ → Option ℕ
step_end at n high on later = if high && not on then Some (at + n) else later

one_more : (at : ℕ) (u : ℕ) (on : Bool) (later : Option ℕ) → on ≡ true → (if is_high u && not on then Some (at + 1) else later) ≡ later
one_more at u true later e = elim (is_high u) as (λ h. (if h && false then Some (at + 1) else later) ≡ later) [ true ↦ refl | false ↦ refl ]
one_more at u false later e = absurd cc

pub keeps_end : (n at : ℕ) (m : AttrMap) (w : List Cell) (t : List Step) (us : Text) → suc n ≤ length us
    → first_cut at (settle w (times (suc n) (Keep m) ++ t)).places us ≡ step_end at (suc n) (ends_high (take (suc n) us)) (goes_on (Keep m) (settle [] t).places) (first_cut (at + suc n) (settle [] t).places (drop (suc n) us))
keeps_end n at m w t [] h = absurd (omega (arith, h))
keeps_end zero at m w t (u ∷ us) h = refl
keeps_end (suc n) at m w t (u ∷ []) h = absurd (omega (arith, h))
keeps_end (suc n) at m w t (u ∷ (v ∷ us)) h =
    let e : at + 1 + suc n ≡ at + suc (suc n) = omega arith in
    one_more at u (same_map m m) _ (same_map_itself m) ∙ keeps_end n (at + 1) m [] t (v ∷ us) (omega (arith, h))
    ∙ ap (λ (k : ℕ). if ends_high (v ∷ take n us) && not (goes_on (Keep m) (settle [] t).places) then Some k else first_cut k (settle [] t).places (drop n us)) e

pub drops_end : (n at : ℕ) (w : List Cell) (t : List Step) (us : Text) → suc n ≤ length us
    → first_cut at (settle w (times (suc n) Drop ++ t)).places us ≡ step_end at (suc n) (ends_high (take (suc n) us)) (goes_on Drop (settle w t).places) (first_cut (at + suc n) (settle w t).places (drop (suc n) us))
drops_end n at w t [] h = absurd (omega (arith, h))
drops_end zero at w t (u ∷ us) h = refl
drops_end (suc n) at w t (u ∷ []) h = absurd (omega (arith, h))
drops_end (suc n) at w t (u ∷ (v ∷ us)) h =
    let e : at + 1 + suc n ≡ at + suc (suc n) = omega arith in
    one_more at u true _ refl ∙ drops_end n (at + 1) w t (v ∷ us) (omega (arith, h))
    ∙ ap (λ (k : ℕ). if ends_high (v ∷ take n us) && not (goes_on Drop (settle w t).places) then Some k else first_cut k (settle w t).places (drop n us)) e

-- ---- what stands behind a run doesn't go on with it

-- where cells wait, the next place doesn't stand right behind
waits : (f : Fate) (ops : List Op) (bank : Text) (w : List Cell) (r : ℕ) → AreNormal ops bank → begins_no_drop ops ≡ true → 1 ≤ length w → goes_on f (settle w (steps_of ops bank ++ rest_kept r)).places ≡ false
waits f ops bank [] r normal free h = absurd (omega (arith, h))
waits f [] bank (c ∷ w) zero normal free h = refl
waits f [] bank (c ∷ w) (suc r) normal free h = refl
waits f (o ∷ os) bank (c ∷ w) r normal free h =
    ap (λ s. goes_on f (settle (c ∷ w) s).places) (append_assoc (op_steps o (take (inserted o.kind o.units) bank)) (steps_of os (drop (inserted o.kind o.units) bank)) (rest_kept r))
    ∙ go o.kind o.units (take (inserted o.kind o.units) bank) normal.0 free normal.1 (λ v k g. waits f os (drop (inserted o.kind o.units) bank) v r normal.2 g k)
  where
    go : (k : Kind) (n : ℕ) (text : Text) → IsRun k n o.lines o.attrs text → not (is_insert_then_drop kind.Insert k) ≡ true → precedes (run k n o.lines o.attrs) os ≡ true
        → ((v : List Cell) → 1 ≤ length v → begins_no_drop os ≡ true → goes_on f (settle v (steps_of os (drop (inserted o.kind o.units) bank) ++ rest_kept r)).places ≡ false)
        → goes_on f (settle (c ∷ w) (run_steps k n o.attrs text ++ (steps_of os (drop (inserted o.kind o.units) bank) ++ rest_kept r))).places ≡ false
    go kind.Keep zero text is e p again = absurd (omega (arith, is))
    go kind.Keep (suc n) text is e p again = refl
    go kind.Drop n text is e p again = absurd cc
    go kind.Insert n text is e p again =
        ap (λ e. goes_on f e.places) (settle-inserts (c ∷ w) (cells o.attrs text) _) ∙ again (c ∷ w ++ cells o.attrs text) (omega arith) (behind os p)
      where
        behind : (os : List Op) → precedes (run kind.Insert n o.lines o.attrs) os ≡ true → begins_no_drop os ≡ true
        behind [] p = refl
        behind (q ∷ qs) p = second_of_two _ _ p

some_cells : (m : AttrMap) (text : Text) (l : ℕ) → IsLined l (newlines text) → 1 ≤ length (cells m text)
some_cells m [] l h = absurd h
some_cells m (u ∷ us) l h = omega arith

behind_insert : (n l : ℕ) (m : AttrMap) (os : List Op) → precedes (run kind.Insert n l m) os ≡ true → begins_no_drop os ≡ true
behind_insert n l m [] p = refl
behind_insert n l m (q ∷ qs) p = second_of_two _ _ p

-- an insertion right behind a run
insert_waits : (f : Fate) (o : Op) (os : List Op) (bank : Text) (r : ℕ) → o.kind ≡ kind.Insert → AreNormal (o ∷ os) bank → goes_on f (settle [] (steps_of (o ∷ os) bank ++ rest_kept r)).places ≡ false
insert_waits f o os bank r e normal =
    ap (λ s. goes_on f (settle [] s).places) (append_assoc (op_steps o (take (inserted o.kind o.units) bank)) (steps_of os (drop (inserted o.kind o.units) bank)) (rest_kept r))
    ∙ go o.kind e normal.0 normal.1
  where
    go : (k : Kind) → k ≡ kind.Insert → IsRun k o.units o.lines o.attrs (take (inserted o.kind o.units) bank) → precedes (run k o.units o.lines o.attrs) os ≡ true
        → goes_on f (settle [] (run_steps k o.units o.attrs (take (inserted o.kind o.units) bank) ++ (steps_of os (drop (inserted o.kind o.units) bank) ++ rest_kept r))).places ≡ false
    go kind.Keep e is p = absurd cc
    go kind.Drop e is p = absurd cc
    go kind.Insert e is p =
        ap (λ e. goes_on f e.places) (settle-inserts [] (cells o.attrs (take (inserted o.kind o.units) bank)) _)
        ∙ waits f os (drop (inserted o.kind o.units) bank) (cells o.attrs (take (inserted o.kind o.units) bank)) r normal.2 (behind_insert o.units o.lines o.attrs os p) (some_cells o.attrs (take (inserted o.kind o.units) bank) o.lines is.1)

not_same : (a b : Bool) → b ≡ true → (a && b) ≡ false → a ≡ false
not_same true b e h = absurd (go b e h)
  where
    go : (b : Bool) → b ≡ true → b ≡ false → ⊥
    go true e h = cc
    go false e h = cc
not_same false b e h = refl

keep_first : (f : Fate) (u : ℕ) (m : AttrMap) (t : List Step) → 1 ≤ u → goes_on f (settle [] (times u (Keep m) ++ t)).places ≡ same_fate f (Keep m)
keep_first f zero m t h = absurd (omega (arith, h))
keep_first f (suc u) m t h = refl

drop_first : (f : Fate) (u : ℕ) (t : List Step) → 1 ≤ u → goes_on f (settle [] (times u Drop ++ t)).places ≡ same_fate f Drop
drop_first f zero t h = absurd (omega (arith, h))
drop_first f (suc u) t h = refl

-- a run that passes units right behind another
keep_behind : (f : Fate) (o : Op) (os : List Op) (bank : Text) (r : ℕ) → o.kind ≡ kind.Keep → AreNormal (o ∷ os) bank → goes_on f (settle [] (steps_of (o ∷ os) bank ++ rest_kept r)).places ≡ same_fate f (Keep o.attrs)
keep_behind f o os bank r e normal =
    ap (λ s. goes_on f (settle [] s).places) (append_assoc (op_steps o (take (inserted o.kind o.units) bank)) (steps_of os (drop (inserted o.kind o.units) bank)) (rest_kept r))
    ∙ go o.kind e normal.0 (take (inserted o.kind o.units) bank) (steps_of os (drop (inserted o.kind o.units) bank) ++ rest_kept r)
  where
    go : (k : Kind) → k ≡ kind.Keep → IsRun k o.units o.lines o.attrs (take (inserted k o.units) bank) → (text : Text) (t : List Step) → goes_on f (settle [] (run_steps k o.units o.attrs text ++ t)).places ≡ same_fate f (Keep o.attrs)
    go kind.Keep e is text t = keep_first f o.units o.attrs t is
    go kind.Drop e is text t = absurd cc
    go kind.Insert e is text t = absurd cc

drop_behind : (f : Fate) (o : Op) (os : List Op) (bank : Text) (r : ℕ) → o.kind ≡ kind.Drop → AreNormal (o ∷ os) bank → goes_on f (settle [] (steps_of (o ∷ os) bank ++ rest_kept r)).places ≡ same_fate f Drop
drop_behind f o os bank r e normal =
    ap (λ s. goes_on f (settle [] s).places) (append_assoc (op_steps o (take (inserted o.kind o.units) bank)) (steps_of os (drop (inserted o.kind o.units) bank)) (rest_kept r))
    ∙ go o.kind e normal.0 (take (inserted o.kind o.units) bank) (steps_of os (drop (inserted o.kind o.units) bank) ++ rest_kept r)
  where
    go : (k : Kind) → k ≡ kind.Drop → IsRun k o.units o.lines o.attrs (take (inserted k o.units) bank) → (text : Text) (t : List Step) → goes_on f (settle [] (run_steps k o.units o.attrs text ++ t)).places ≡ same_fate f Drop
    go kind.Keep e is text t = absurd cc
    go kind.Drop e is text t = drop_first f o.units t is.0
    go kind.Insert e is text t = absurd cc

keep_border : (n l : ℕ) (m : AttrMap) (os : List Op) (bank : Text) (r : ℕ) → AreNormal os bank → precedes (run kind.Keep n l m) os ≡ true → l ≡ 0 → goes_on (Keep m) (settle [] (steps_of os bank ++ rest_kept r)).places ≡ false
keep_border n l m [] bank zero normal p z = refl
keep_border n l m [] bank (suc r) normal p z = not_true (is_none m) p
keep_border n l m (q ∷ qs) bank r normal p z = go q.kind refl
  where
    apart : q.kind ≡ kind.Keep → same_map m q.attrs ≡ false
    apart e = not_same (same_map m q.attrs) (lined q.lines l) (ap (lined q.lines) z ∙ lined_none q.lines) (ap (λ k. same_kind kind.Keep k && (same_map m q.attrs && lined q.lines l)) (sym e) ∙ not_true (joins (run kind.Keep n l m) q) (first_of_two _ _ p))

    go : (k : Kind) → q.kind ≡ k → goes_on (Keep m) (settle [] (steps_of (q ∷ qs) bank ++ rest_kept r)).places ≡ false
    go kind.Insert e = insert_waits (Keep m) q qs bank r e normal
    go kind.Keep e = keep_behind (Keep m) q qs bank r e normal ∙ apart e
    go kind.Drop e = drop_behind (Keep m) q qs bank r e normal

drop_border : (n l : ℕ) (os : List Op) (bank : Text) (r : ℕ) → AreNormal os bank → precedes (run kind.Drop n l none) os ≡ true → l ≡ 0 → goes_on Drop (settle [] (steps_of os bank ++ rest_kept r)).places ≡ false
drop_border n l [] bank zero normal p z = refl
drop_border n l [] bank (suc r) normal p z = refl
drop_border n l (q ∷ qs) bank r normal p z = go q.kind refl
  where
    bare : (k : Kind) → q.kind ≡ k → k ≡ kind.Drop → IsRun k q.units q.lines q.attrs (take (inserted k q.units) bank) → same_map none q.attrs ≡ true
    bare kind.Keep e d is = absurd cc
    bare kind.Drop e d is = ap (same_map none) is.1 ∙ same_map_itself none
    bare kind.Insert e d is = absurd cc

    never : q.kind ≡ kind.Drop → ⊥
    never e = no (same_map none q.attrs) (lined q.lines l) (bare q.kind refl e normal.0) (ap (lined q.lines) z ∙ lined_none q.lines) (ap (λ k. same_kind kind.Drop k && (same_map none q.attrs && lined q.lines l)) (sym e) ∙ not_true (joins (run kind.Drop n l none) q) (first_of_two _ _ p))
      where
        no : (a b : Bool) → a ≡ true → b ≡ true → (a && b) ≡ false → ⊥
        no true true h k e = cc
        no true false h k e = cc
        no false b h k e = cc

    go : (k : Kind) → q.kind ≡ k → goes_on Drop (settle [] (steps_of (q ∷ qs) bank ++ rest_kept r)).places ≡ false
    go kind.Insert e = insert_waits Drop q qs bank r e normal
    go kind.Keep e = keep_behind Drop q qs bank r e normal
    go kind.Drop e = absurd (never e)

-- ---- a run that ends with the first half of a pair has no newline at its end

high_no_newline : (u : ℕ) → is_high u ≡ true → is_newline u ≡ false
high_no_newline u h = grind (arith, nat_tests)

no_lines : (us : Text) (l : ℕ) → ends_high us ≡ true → IsLined l (newlines us) → l ≡ 0
no_lines [] l h is = absurd cc
no_lines (u ∷ []) l h is = is ∙ ap (λ (b : Bool). cond b 1 0) (high_no_newline u h)
no_lines (u ∷ (v ∷ us)) l h is =
    let rest = no_lines (v ∷ us) is.0 h is.3 in
    elim is.2 as (λ _. l ≡ 0) [ inl z ↦ omega (arith, is.1, rest, z) | inr k ↦ absurd (omega (arith, rest, k)) ]

-- ---- the walk over runs

at_border : (at n : ℕ) (high on : Bool) (later : Option ℕ) → (high ≡ true → on ≡ false) → step_end at n high on later ≡ (if high then Some (at + n) else later)
at_border at n false on later h = refl
at_border at n true on later h = ap (λ (b : Bool). if true && not b then Some (at + n) else later) (h refl)

take_whole : (n : ℕ) (us : Text) → length us ≡ n → take n us ≡ us
take_whole zero [] e = refl
take_whole zero (u ∷ us) e = absurd (omega (arith, e))
take_whole (suc n) [] e = refl
take_whole (suc n) (u ∷ us) e = ap (λ vs. u ∷ vs) (take_whole n us (omega (arith, e)))

rest_ends : (r at : ℕ) (w : List Cell) (us : Text) → length us ≡ r → first_cut at (settle w (rest_kept r)).places us ≡ (if ends_high us then Some (at + length us) else None)
rest_ends zero at w [] e = refl
rest_ends zero at w (u ∷ us) e = absurd (omega (arith, e))
rest_ends (suc r) at w us e =
    ap (λ s. first_cut at (settle w s).places us) (sym (append-nil (times (suc r) (Keep none))))
    ∙ keeps_end r at none w [] us (omega (arith, e))
    ∙ at_border at (suc r) (ends_high (take (suc r) us)) false None (λ _. refl)
    ∙ (λ i. if ends_high (take_whole (suc r) us e i) then Some (at + sym e i) else None)

pub ends_are : (ops : List Op) (bank : Text) (w : List Cell) (at r : ℕ) (us : Text) → AreNormal ops bank → AreTrue ops us → all_passed ops + r ≡ length us → (w ≡ []) ⊎ (begins_no_drop ops ≡ true)
    → first_cut at (settle w (steps_of ops bank ++ rest_kept r)).places us ≡ first_end at ops us
ends_are [] bank w at r us normal trues e free = rest_ends r at w us (omega (arith, e))
ends_are (o ∷ os) bank w at r us normal trues e free =
    let later = drop (inserted o.kind o.units) bank in
    ap (λ s. first_cut at (settle w s).places us) (append_assoc (op_steps o (take (inserted o.kind o.units) bank)) (steps_of os later) (rest_kept r))
    ∙ go o.kind o.units o.attrs (take (inserted o.kind o.units) bank) normal.0 normal.1 trues.0 e free (λ v k vs t c f. ends_are os later v k r vs normal.2 t c f) trues.1
  where
    go : (k : Kind) (n : ℕ) (m : AttrMap) (text : Text) → IsRun k n o.lines m text → precedes (run k n o.lines m) os ≡ true → IsTrueRun k n o.lines (take (passed k n) us)
        → passed k n + all_passed os + r ≡ length us → (w ≡ []) ⊎ (not (is_insert_then_drop kind.Insert k) ≡ true)
        → ((v : List Cell) (k : ℕ) (vs : Text) → AreTrue os vs → all_passed os + r ≡ length vs → (v ≡ []) ⊎ (begins_no_drop os ≡ true)
        → first_cut k (settle v (steps_of os (drop (inserted o.kind o.units) bank) ++ rest_kept r)).places vs ≡ first_end k os vs)
        → AreTrue os (drop (passed k n) us)
        → first_cut at (settle w (run_steps k n m text ++ (steps_of os (drop (inserted o.kind o.units) bank) ++ rest_kept r))).places us
        ≡ (if ends_high (take (passed k n) us) then Some (at + passed k n) else first_end (at + passed k n) os (drop (passed k n) us))
    go kind.Keep zero m text is p true_run e free again trues = absurd (omega (arith, is))
    go kind.Keep (suc n) m text is p true_run e free again trues =
        keeps_end n at m w _ us (omega (arith, e))
        ∙ at_border at (suc n) (ends_high (take (suc n) us)) _ _ (λ h. keep_border (suc n) o.lines m os (drop (inserted o.kind o.units) bank) r normal.2 p (no_lines (take (suc n) us) o.lines h true_run.1))
        ∙ ap (λ later. if ends_high (take (suc n) us) then Some (at + suc n) else later) (again [] (at + suc n) (drop (suc n) us) trues (omega (arith, e, length-drop (suc n) us)) (inl refl))
    go kind.Drop zero m text is p true_run e free again trues = absurd (omega (arith, is.0))
    go kind.Drop (suc n) m text is p true_run e (inr f) again trues = absurd cc
    go kind.Drop (suc n) m text is p true_run e (inl f) again trues =
        drops_end n at w _ us (omega (arith, e))
        ∙ at_border at (suc n) (ends_high (take (suc n) us)) _ _
        (λ h. ap (λ v. goes_on Drop (settle v (steps_of os (drop (inserted o.kind o.units) bank) ++ rest_kept r)).places) f ∙ drop_border (suc n) o.lines os (drop (inserted o.kind o.units) bank) r normal.2 (ap (λ m. precedes (run kind.Drop (suc n) o.lines m) os) (sym is.1) ∙ p) (no_lines (take (suc n) us) o.lines h true_run.1))
        ∙ ap (λ later. if ends_high (take (suc n) us) then Some (at + suc n) else later) (again w (at + suc n) (drop (suc n) us) trues (omega (arith, e, length-drop (suc n) us)) (inl f))
    go kind.Insert n m text is p true_run e free again trues =
        ap (λ e. first_cut at e.places us) (settle-inserts w (cells m text) _)
        ∙ again (w ++ cells m text) at us trues (omega (arith, e)) (inr (behind_insert n o.lines m os p))
        ∙ ap (λ (k : ℕ). first_end k os us) (let z : at ≡ at + 0 = omega arith in z)
