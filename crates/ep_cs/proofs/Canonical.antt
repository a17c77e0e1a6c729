-- Runs in normal form are the runs of their change.
use Rattle.std.proofs.Common.{◌≡◌, ℕ, zero, suc, ◌+◌, ◌-◌, ◌≤◌, Bool, true, false, cond, not, ◌&&◌, ◌⊎◌, inl, inr, List, [], ◌∷◌, ◌++◌, length, take, drop, replicate, refl, sym, ap, ◌∙◌, subst, arith, append_assoc, append-nil}
use Rattle.std.proofs.lemmas.List.{length-map}
use Rattle.ep_units.specs.Text.{Text, is_newline}
use Rattle.ep_attr.specs.AttrMap.{AttrMap, none}
use Rattle.ep_cs.specs.Doc.{Cell}
use Rattle.ep_cs.specs.Edit.{Fate, Step, Edit, inserts, settle}
use Rattle.ep_cs.specs.Edit.Fate.{Drop, Keep}
use Rattle.ep_cs.specs.Edit.Step.{Pass}
use Rattle.ep_cs.specs.declared.op.Kind.{Kind}
use Rattle.ep_cs.specs.declared.op.Kind.TheVariants as kind
use Rattle.ep_cs.specs.declared.op.Op.{Op}
use Rattle.ep_cs.specs.Runs.{cells, inserted, run_steps, op_steps, steps_of, marked, run_marks, marks_of, all_passed, rest_kept}
use Rattle.ep_cs.specs.Normal.{joins, joined, is_bare, put, one, put_cells, put_place, runs_from}
use Rattle.ep_cs.specs.Change.{Change, change_of, newlines}
use Rattle.ep_cs.specs.NormalRuns.{precedes, is_insert_then_drop, IsLined, IsRun, AreNormal}
use Rattle.ep_cs.proofs.Put.{run, put_units, put_units-run}

abbrev pub times : ℕ → Fate → List Step
times k f = replicate k (Pass f)

abbrev pub runs_in : Edit → List ℕ → List Op
runs_in e marks = runs_from e.places e.last marks

abbrev kind_of : Fate → Kind
kind_of Drop = kind.Drop
kind_of (Keep m) = kind.Keep

abbrev map_of : Fate → AttrMap
map_of Drop = none
map_of (Keep m) = m

put_place_is : (f : Fate) (mark : ℕ) (os : List Op) → put_place f mark os ≡ put (one (kind_of f) (map_of f) mark) os
put_place_is Drop mark os = refl
put_place_is (Keep m) mark os = refl

pub IsLined-before : (x lines : ℕ) (ms : List ℕ) → IsLined lines ms → (x ≡ 0) ⊎ (1 ≤ lines) → IsLined (x + lines) (x ∷ ms)
IsLined-before x lines [] h k = absurd h
IsLined-before x lines (m ∷ ms) h k = (lines, refl, k, h)

IsLined-marked : (n l : ℕ) → IsLined l (marked (suc n) l)
IsLined-marked zero l = refl
IsLined-marked (suc n) l = subst (λ k. IsLined k (marked (suc (suc n)) l)) (let e : 0 + l ≡ l = omega arith in e) (IsLined-before 0 l (marked (suc n) l) (IsLined-marked n l) (inl refl))

length-marked : (n l : ℕ) → length (marked n l) ≡ n
length-marked zero l = refl
length-marked (suc zero) l = refl
length-marked (suc (suc n)) l = ap suc (length-marked (suc n) l)

-- places that are kept one after the other, with nothing before them
pub keeps_are : (m : AttrMap) (ks ms : List ℕ) (t : List Step) → runs_in (settle [] (times (length ks) (Keep m) ++ t)) (ks ++ ms) ≡ put_units kind.Keep m ks (runs_in (settle [] t) ms)
keeps_are m [] ms t = refl
keeps_are m (k ∷ ks) ms t = ap (put (one kind.Keep m k)) (keeps_are m ks ms t)

pub keep_is : (w : List Cell) (n l : ℕ) (m : AttrMap) (ms : List ℕ) (t : List Step)
    → runs_in (settle w (times (suc n) (Keep m) ++ t)) (marked (suc n) l ++ ms) ≡ put_cells w (put (run kind.Keep (suc n) l m) (runs_in (settle [] t) ms))
keep_is w n l m ms t = go (marked (suc n) l) (length-marked (suc n) l) (IsLined-marked n l)
  where
    go : (ks : List ℕ) → length ks ≡ suc n → IsLined l ks → runs_in (settle w (times (suc n) (Keep m) ++ t)) (ks ++ ms) ≡ put_cells w (put (run kind.Keep (suc n) l m) (runs_in (settle [] t) ms))
    go [] e h = absurd (omega arith)
    go (k ∷ ks) e h =
        let e1 : n ≡ length ks = omega arith in
        ap (λ (n : ℕ). put_cells w (put (one kind.Keep m k) (runs_in (settle [] (times n (Keep m) ++ t)) (ks ++ ms)))) e1
        ∙ ap (λ os. put_cells w (put (one kind.Keep m k) os)) (keeps_are m ks ms t)
        ∙ ap (put_cells w) (put_units-run kind.Keep m l (k ∷ ks) (runs_in (settle [] t) ms) h)
        ∙ ap (λ (n : ℕ). put_cells w (put (run kind.Keep n l m) (runs_in (settle [] t) ms))) e

pub drops_are : (w : List Cell) (ks ms : List ℕ) (t : List Step) → runs_in (settle w (times (length ks) Drop ++ t)) (ks ++ ms) ≡ put_units kind.Drop none ks (runs_in (settle w t) ms)
drops_are w [] ms t = refl
drops_are w (k ∷ ks) ms t = ap (put (one kind.Drop none k)) (drops_are w ks ms t)

pub drop_is : (w : List Cell) (n l : ℕ) (ms : List ℕ) (t : List Step)
    → runs_in (settle w (times (suc n) Drop ++ t)) (marked (suc n) l ++ ms) ≡ put (run kind.Drop (suc n) l none) (runs_in (settle w t) ms)
drop_is w n l ms t =
    let e : length (marked (suc n) l) ≡ suc n = length-marked (suc n) l in
    ap (λ (k : ℕ). runs_in (settle w (times k Drop ++ t)) (marked (suc n) l ++ ms)) (sym e)
    ∙ drops_are w (marked (suc n) l) ms t
    ∙ put_units-run kind.Drop none l (marked (suc n) l) (runs_in (settle w t) ms) (IsLined-marked n l)
    ∙ ap (λ (k : ℕ). put (run kind.Drop k l none) (runs_in (settle w t) ms)) e

pub settle-inserts : (w cells : List Cell) (t : List Step) → settle w (inserts cells ++ t) ≡ settle (w ++ cells) t
settle-inserts w [] t = ap (λ v. settle v t) (sym (append-nil w))
settle-inserts w (c ∷ cells) t = settle-inserts (w ++ c ∷ []) cells t ∙ ap (λ v. settle v t) (append_assoc w (c ∷ []) cells)

pub put_cells-append : (a b : List Cell) (os : List Op) → put_cells (a ++ b) os ≡ put_cells a (put_cells b os)
put_cells-append [] b os = refl
put_cells-append (c ∷ a) b os = ap (put (one kind.Insert c.attrs (cond (is_newline c.unit) 1 0))) (put_cells-append a b os)

cells_are : (m : AttrMap) (us : Text) (os : List Op) → put_cells (cells m us) os ≡ put_units kind.Insert m (newlines us) os
cells_are m [] os = refl
cells_are m (u ∷ us) os = ap (put (one kind.Insert m (cond (is_newline u) 1 0))) (cells_are m us os)

pub insert_is : (n l : ℕ) (m : AttrMap) (us : Text) (os : List Op) → length us ≡ n → IsLined l (newlines us) → put_cells (cells m us) os ≡ put (run kind.Insert n l m) os
insert_is n l m us os e h =
    cells_are m us os ∙ put_units-run kind.Insert m l (newlines us) os h
    ∙ ap (λ (k : ℕ). put (run kind.Insert k l m) os) (length-map us (λ u. cond (is_newline u) 1 0) ∙ e)

-- what is kept at the end isn't written
pub rest_is : (r : ℕ) → runs_in (settle [] (rest_kept r)) [] ≡ []
rest_is zero = refl
rest_is (suc r) = ap (put (one kind.Keep none 0)) (rest_is r)

pub rest_after : (w : List Cell) (r : ℕ) → runs_in (settle w (rest_kept r)) [] ≡ put_cells w []
rest_after w zero = refl
rest_after w (suc r) = ap (λ os. put_cells w (put (one kind.Keep none 0) os)) (rest_is r)

pub not_true : (b : Bool) → not b ≡ true → b ≡ false
not_true true e = absurd cc
not_true false e = refl

pub first_of_two : (a b : Bool) → (a && b) ≡ true → a ≡ true
first_of_two true b e = refl
first_of_two false b e = absurd cc

pub second_of_two : (a b : Bool) → (a && b) ≡ true → b ≡ true
second_of_two true b e = e
second_of_two false b e = absurd cc

-- a run that may stand before runs is put there as it is
pub put-precedes : (o : Op) (os : List Op) → precedes o os ≡ true → put o os ≡ o ∷ os
put-precedes o [] h = ap (λ b. cond b [] (o ∷ [])) (not_true (is_bare o) h)
put-precedes o (p ∷ ps) h = ap (λ b. cond b (joined o p ∷ ps) (o ∷ (p ∷ ps))) (not_true (joins o p) (first_of_two _ _ h))

-- no drop stands first
abbrev pub begins_no_drop : List Op → Bool
begins_no_drop [] = true
begins_no_drop (o ∷ os) = not (is_insert_then_drop kind.Insert o.kind)

after_insert : (n l : ℕ) (m : AttrMap) (os : List Op) → precedes (run kind.Insert n l m) os ≡ true → begins_no_drop os ≡ true
after_insert n l m [] h = refl
after_insert n l m (p ∷ ps) h = second_of_two _ _ h

-- where cells wait, no drop comes next
canonical_from : (ops : List Op) (bank : Text) (w : List Cell) (r : ℕ) → AreNormal ops bank → (w ≡ []) ⊎ (begins_no_drop ops ≡ true)
    → runs_in (settle w (steps_of ops bank ++ rest_kept r)) (marks_of ops) ≡ put_cells w ops
canonical_from [] bank w r normal waits = rest_after w r
canonical_from (o ∷ os) bank w r normal waits =
    let text = take (inserted o.kind o.units) bank in
    let later = drop (inserted o.kind o.units) bank in
    ap (λ steps. runs_in (settle w steps) (run_marks o.kind o.units o.lines ++ marks_of os)) (append_assoc (op_steps o text) (steps_of os later) (rest_kept r))
    ∙ go o.kind o.units o.lines o.attrs text normal.0 normal.1 waits (λ v h. canonical_from os later v r normal.2 h) (λ v h. h)
  where
    go : (k : Kind) (n l : ℕ) (m : AttrMap) (text : Text) → IsRun k n l m text → precedes (run k n l m) os ≡ true → (w ≡ []) ⊎ (not (is_insert_then_drop kind.Insert k) ≡ true)
        → ((v : List Cell) → (v ≡ []) ⊎ (begins_no_drop os ≡ true) → runs_in (settle v (steps_of os (drop (inserted o.kind o.units) bank) ++ rest_kept r)) (marks_of os) ≡ put_cells v os)
        → ((v : List Cell) → v ≡ v → v ≡ v)
        → runs_in (settle w (run_steps k n m text ++ (steps_of os (drop (inserted o.kind o.units) bank) ++ rest_kept r))) (run_marks k n l ++ marks_of os) ≡ put_cells w (run k n l m ∷ os)
    go kind.Keep zero l m text is h waits again _ = absurd (omega arith)
    go kind.Drop zero l m text is h waits again _ = absurd (omega (arith, is.0))
    go kind.Keep (suc n) l m text is h waits again _ =
        keep_is w n l m (marks_of os) (steps_of os (drop (inserted o.kind o.units) bank) ++ rest_kept r)
        ∙ ap (λ ops. put_cells w (put (run kind.Keep (suc n) l m) ops)) (again [] (inl refl))
        ∙ ap (put_cells w) (put-precedes (run kind.Keep (suc n) l m) os h)
    go kind.Drop (suc n) l m text is h (inr e) again _ = absurd cc
    go kind.Drop (suc n) l m text is h (inl e) again _ =
        drop_is w n l (marks_of os) (steps_of os (drop (inserted o.kind o.units) bank) ++ rest_kept r)
        ∙ ap (put (run kind.Drop (suc n) l none)) (again w (inl e))
        ∙ ap (λ v. put (run kind.Drop (suc n) l none) (put_cells v os)) e
        ∙ ap (λ m. put (run kind.Drop (suc n) l m) os) (sym is.1)
        ∙ put-precedes (run kind.Drop (suc n) l m) os h
        ∙ sym (ap (λ v. put_cells v (run kind.Drop (suc n) l m ∷ os)) e)
    go kind.Insert n l m text is h waits again _ =
        ap (λ e. runs_in e (marks_of os)) (settle-inserts w (cells m text) (steps_of os (drop (inserted o.kind o.units) bank) ++ rest_kept r))
        ∙ again (w ++ cells m text) (inr (after_insert n l m os h))
        ∙ put_cells-append w (cells m text) os
        ∙ ap (put_cells w) (insert_is n l m text os is.0 is.1 ∙ put-precedes (run kind.Insert n l m) os h)

-- runs in normal form are those of the change that they stand for
pub canonical : (n : ℕ) (ops : List Op) (bank : Text) → AreNormal ops bank → (change_of n ops bank).runs ≡ ops
canonical n ops bank normal = canonical_from ops bank [] (n - all_passed ops) normal (inl refl)

-- so one change has one list of runs in normal form
pub one_normal : (n n' : ℕ) (ops ops' : List Op) (bank bank' : Text) → AreNormal ops bank → AreNormal ops' bank' → change_of n ops bank ≡ change_of n' ops' bank' → ops ≡ ops'
one_normal n n' ops ops' bank bank' h h' e = sym (canonical n ops bank h) ∙ ap (λ (c : Change). c.runs) e ∙ canonical n' ops' bank' h'
