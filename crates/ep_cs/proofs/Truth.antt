-- Runs that are true of a text have its newlines: so a change of true runs fits.
use Rattle.std.proofs.Common.{◌≡◌, ℕ, zero, suc, ◌+◌, ◌-◌, ◌≤◌, cond, List, [], ◌∷◌, ◌++◌, length, take, drop, refl, sym, ap, ◌∙◌, arith, append_assoc, take-append-drop, length-take-le, length-drop}
use Rattle.std.proofs.lemmas.List.{length-map, map-append}
use Rattle.ep_units.specs.Text.{Text, is_newline}
use Rattle.ep_attr.specs.AttrMap.{AttrMap, none}
use Rattle.ep_cs.specs.Doc.{Cell}
use Rattle.ep_cs.specs.Edit.{Step, Edit, settle, edit_of}
use Rattle.ep_cs.specs.Edit.Fate.{Drop, Keep}
use Rattle.ep_cs.specs.declared.op.Kind.{Kind}
use Rattle.ep_cs.specs.declared.op.Kind.TheVariants as kind
use Rattle.ep_cs.specs.declared.op.Op.{Op}
use Rattle.ep_cs.specs.Runs.{cells, inserted, passed, run_steps, op_steps, steps_of, run_marks, marks_of, all_passed, rest_kept}
use Rattle.ep_cs.specs.Normal.{put, one, put_cells}
use Rattle.ep_cs.specs.Change.{Change, change_of, stamped, newlines}
use Rattle.ep_cs.specs.NormalRuns.{IsLined, IsTrueRun, AreTrue}
use Rattle.ep_cs.proofs.Put.{run, put_units-run}
use Rattle.ep_cs.proofs.Canonical.{times, runs_in, keeps_are, drops_are, keep_is, drop_is, settle-inserts}

pub rest_any : (r : ℕ) (ks : List ℕ) → runs_in (settle [] (rest_kept r)) ks ≡ []
rest_any zero ks = refl
rest_any (suc r) [] = ap (put (one kind.Keep none 0)) (rest_any r [])
rest_any (suc r) (k ∷ ks) = ap (put (one kind.Keep none k)) (rest_any r ks)

rest_marks : (w : List Cell) (r : ℕ) (ks : List ℕ) → runs_in (settle w (rest_kept r)) ks ≡ put_cells w []
rest_marks w zero ks = refl
rest_marks w (suc r) [] = ap (λ os. put_cells w (put (one kind.Keep none 0) os)) (rest_any r [])
rest_marks w (suc r) (k ∷ ks) = ap (λ os. put_cells w (put (one kind.Keep none k) os)) (rest_any r ks)

keep_lined : (w : List Cell) (n l : ℕ) (m : AttrMap) (ks ms : List ℕ) (t : List Step) → length ks ≡ suc n → IsLined l ks
    → runs_in (settle w (times (suc n) (Keep m) ++ t)) (ks ++ ms) ≡ put_cells w (put (run kind.Keep (suc n) l m) (runs_in (settle [] t) ms))
keep_lined w n l m [] ms t e h = absurd (omega arith)
keep_lined w n l m (k ∷ ks) ms t e h =
    let e1 : n ≡ length ks = omega arith in
    ap (λ (n : ℕ). put_cells w (put (one kind.Keep m k) (runs_in (settle [] (times n (Keep m) ++ t)) (ks ++ ms)))) e1
    ∙ ap (λ os. put_cells w (put (one kind.Keep m k) os)) (keeps_are m ks ms t)
    ∙ ap (put_cells w) (put_units-run kind.Keep m l (k ∷ ks) (runs_in (settle [] t) ms) h)
    ∙ ap (λ (n : ℕ). put_cells w (put (run kind.Keep n l m) (runs_in (settle [] t) ms))) e

drop_lined : (w : List Cell) (n l : ℕ) (ks ms : List ℕ) (t : List Step) → length ks ≡ suc n → IsLined l ks
    → runs_in (settle w (times (suc n) Drop ++ t)) (ks ++ ms) ≡ put (run kind.Drop (suc n) l none) (runs_in (settle w t) ms)
drop_lined w n l ks ms t e h =
    ap (λ (k : ℕ). runs_in (settle w (times k Drop ++ t)) (ks ++ ms)) (sym e) ∙ drops_are w ks ms t
    ∙ put_units-run kind.Drop none l ks (runs_in (settle w t) ms) h ∙ ap (λ (k : ℕ). put (run kind.Drop k l none) (runs_in (settle w t) ms)) e

lines_cut : (n : ℕ) (us : Text) → newlines us ≡ newlines (take n us) ++ newlines (drop n us)
lines_cut n us = ap newlines (sym (take-append-drop n us)) ∙ map-append (λ u. cond (is_newline u) 1 0) (take n us) (drop n us)

lines_length : (n : ℕ) (us : Text) → n ≤ length us → length (newlines (take n us)) ≡ n
lines_length n us h = length-map (take n us) (λ u. cond (is_newline u) 1 0) ∙ length-take-le n us h

true_from : (ops : List Op) (bank : Text) (w : List Cell) (r : ℕ) (text : Text) → AreTrue ops text → all_passed ops ≤ length text
    → runs_in (settle w (steps_of ops bank ++ rest_kept r)) (newlines text) ≡ runs_in (settle w (steps_of ops bank ++ rest_kept r)) (marks_of ops)
true_from [] bank w r text trues h = rest_marks w r (newlines text) ∙ sym (rest_marks w r [])
true_from (o ∷ os) bank w r text trues h =
    let text_of_op = take (inserted o.kind o.units) bank in
    let later = drop (inserted o.kind o.units) bank in
    let steps = append_assoc (op_steps o text_of_op) (steps_of os later) (rest_kept r) in
    ap (λ s. runs_in (settle w s) (newlines text)) steps
    ∙ go o.kind o.units o.attrs text_of_op (steps_of os later ++ rest_kept r) trues.0 h (λ v. true_from os later v r (drop (passed o.kind o.units) text) trues.1 (omega (arith, length-drop (passed o.kind o.units) text)))
    ∙ sym (ap (λ s. runs_in (settle w s) (run_marks o.kind o.units o.lines ++ marks_of os)) steps)
  where
    go : (k : Kind) (n : ℕ) (m : AttrMap) (us : Text) (t : List Step) → IsTrueRun k n o.lines (take (passed k n) text) → passed k n + all_passed os ≤ length text
        → ((v : List Cell) → runs_in (settle v t) (newlines (drop (passed k n) text)) ≡ runs_in (settle v t) (marks_of os))
        → runs_in (settle w (run_steps k n m us ++ t)) (newlines text) ≡ runs_in (settle w (run_steps k n m us ++ t)) (run_marks k n o.lines ++ marks_of os)
    go kind.Keep zero m us t is h again = absurd (omega (arith, is.0))
    go kind.Drop zero m us t is h again = absurd (omega (arith, is.0))
    go kind.Keep (suc n) m us t is h again =
        ap (runs_in (settle w (times (suc n) (Keep m) ++ t))) (lines_cut (suc n) text)
        ∙ keep_lined w n o.lines m (newlines (take (suc n) text)) (newlines (drop (suc n) text)) t (lines_length (suc n) text (omega arith)) is.1
        ∙ ap (λ os. put_cells w (put (run kind.Keep (suc n) o.lines m) os)) (again [])
        ∙ sym (keep_is w n o.lines m (marks_of os) t)
    go kind.Drop (suc n) m us t is h again =
        ap (runs_in (settle w (times (suc n) Drop ++ t))) (lines_cut (suc n) text)
        ∙ drop_lined w n o.lines (newlines (take (suc n) text)) (newlines (drop (suc n) text)) t (lines_length (suc n) text (omega arith)) is.1
        ∙ ap (put (run kind.Drop (suc n) o.lines none)) (again w)
        ∙ sym (drop_is w n o.lines (marks_of os) t)
    go kind.Insert n m us t is h again =
        ap (λ e. runs_in e (newlines text)) (settle-inserts w (cells m us) t) ∙ again (w ++ cells m us) ∙ sym (ap (λ e. runs_in e (marks_of os)) (settle-inserts w (cells m us) t))

-- a change of runs that are true of a text is the one that makes its edit and fits that text
pub true_change : (ops : List Op) (bank : Text) (text : Text) → AreTrue ops text → all_passed ops ≤ length text
    → change_of (length text) ops bank ≡ stamped (change_of (length text) ops bank).edit text
true_change ops bank text trues h =
    let e : Edit = edit_of (steps_of ops bank ++ rest_kept (length text - all_passed ops)) in
    ap (λ (os : List Op). make e os) (sym (true_from ops bank [] (length text - all_passed ops) text trues h))
  where
    make : Edit → List Op → Change
    make e os = record { edit = e; runs = os }
