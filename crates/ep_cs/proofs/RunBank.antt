-- The bank and the length of the change that normal runs stand for.
use Rattle.std.proofs.Common.{◌≡◌, ℕ, zero, suc, ◌+◌, ◌-◌, ◌≤◌, List, [], ◌∷◌, ◌++◌, length, take, drop, replicate, refl, sym, ap, ap₂, ◌∙◌, arith, append_assoc, append-nil, take-append-drop}
use Rattle.ep_units.specs.Text.{Text}
use Rattle.ep_attr.specs.AttrMap.{AttrMap, none}
use Rattle.ep_cs.specs.Doc.{Cell, text_of}
use Rattle.ep_cs.specs.Edit.{Fate, Step, inserts, settle}
use Rattle.ep_cs.specs.Edit.Fate.{Drop, Keep}
use Rattle.ep_cs.specs.Edit.Step.{Insert, Pass}
use Rattle.ep_cs.specs.Steps.{passed as steps_passed}
use Rattle.ep_cs.proofs.Items.{length-settle}
use Rattle.ep_cs.specs.declared.op.Kind.{Kind}
use Rattle.ep_cs.specs.declared.op.Kind.TheVariants as kind
use Rattle.ep_cs.specs.declared.op.Op.{Op}
use Rattle.ep_cs.specs.Runs.{cells, inserted, passed, run_steps, op_steps, steps_of, all_passed, rest_kept}
use Rattle.ep_cs.specs.Change.{change_of, bank_of}
use Rattle.ep_cs.specs.NormalRuns.{AreNormal}

abbrev new_units : List Step → Text
new_units [] = []
new_units (Insert c ∷ s) = c.unit ∷ new_units s
new_units (Pass f ∷ s) = new_units s

units-append : (s t : List Step) → new_units (s ++ t) ≡ new_units s ++ new_units t
units-append [] t = refl
units-append (Insert c ∷ s) t = ap (λ us. c.unit ∷ us) (units-append s t)
units-append (Pass f ∷ s) t = units-append s t

text-append : (a b : List Cell) → text_of (a ++ b) ≡ text_of a ++ text_of b
text-append [] b = refl
text-append (c ∷ a) b = ap (λ us. c.unit ∷ us) (text-append a b)

bank_settle : (w : List Cell) (s : List Step) → bank_of (settle w s) ≡ text_of w ++ new_units s
bank_settle w [] = sym (append-nil (text_of w))
bank_settle w (Insert c ∷ s) = bank_settle (w ++ c ∷ []) s ∙ ap (λ us. us ++ new_units s) (text-append w (c ∷ [])) ∙ append_assoc (text_of w) (c.unit ∷ []) (new_units s)
bank_settle w (Pass Drop ∷ s) = bank_settle w s
bank_settle w (Pass (Keep m) ∷ s) = ap (λ us. text_of w ++ us) (bank_settle [] s)

units_times : (n : ℕ) (f : Fate) → new_units (replicate n (Pass f)) ≡ []
units_times zero f = refl
units_times (suc n) f = units_times n f

units_cells : (m : AttrMap) (us : Text) → new_units (inserts (cells m us)) ≡ us
units_cells m [] = refl
units_cells m (u ∷ us) = ap (λ us. u ∷ us) (units_cells m us)

units_are : (ops : List Op) (bank : Text) → AreNormal ops bank → new_units (steps_of ops bank) ≡ bank
units_are [] bank h = sym h
units_are (o ∷ os) bank h =
    units-append (op_steps o (take (inserted o.kind o.units) bank)) (steps_of os (drop (inserted o.kind o.units) bank))
    ∙ go o.kind o.units (units_are os (drop (inserted o.kind o.units) bank) h.2)
  where
    go : (k : Kind) (n : ℕ) → new_units (steps_of os (drop (inserted k n) bank)) ≡ drop (inserted k n) bank → new_units (run_steps k n o.attrs (take (inserted k n) bank)) ++ new_units (steps_of os (drop (inserted k n) bank)) ≡ bank
    go kind.Keep n e = ap₂ (λ (a b : Text). a ++ b) (units_times n (Keep o.attrs)) e
    go kind.Drop n e = ap₂ (λ (a b : Text). a ++ b) (units_times n Drop) e
    go kind.Insert n e = ap₂ (λ (a b : Text). a ++ b) (units_cells o.attrs (take n bank)) e ∙ take-append-drop n bank

pub bank_is : (n : ℕ) (ops : List Op) (bank : Text) → AreNormal ops bank → bank_of (change_of n ops bank).edit ≡ bank
bank_is n ops bank h =
    bank_settle [] (steps_of ops bank ++ rest_kept (n - all_passed ops)) ∙ units-append (steps_of ops bank) (rest_kept (n - all_passed ops))
    ∙ ap₂ (λ (a b : Text). a ++ b) (units_are ops bank h) (units_times (n - all_passed ops) (Keep none)) ∙ append-nil bank

passed_inserts : (cs : List Cell) (s : List Step) → steps_passed (inserts cs ++ s) ≡ steps_passed s
passed_inserts [] s = refl
passed_inserts (c ∷ cs) s = passed_inserts cs s

pub passed_times : (n : ℕ) (f : Fate) (s : List Step) → steps_passed (replicate n (Pass f) ++ s) ≡ n + steps_passed s
passed_times zero f s = omega arith
passed_times (suc n) f s = omega (arith, passed_times n f s)

pub passed_all : (ops : List Op) (bank : Text) (r : ℕ) → steps_passed (steps_of ops bank ++ rest_kept r) ≡ all_passed ops + r
passed_all [] bank r = ap steps_passed (sym (append-nil (rest_kept r))) ∙ passed_times r (Keep none) [] ∙ omega arith
passed_all (o ∷ os) bank r =
    ap steps_passed (append_assoc (op_steps o (take (inserted o.kind o.units) bank)) (steps_of os (drop (inserted o.kind o.units) bank)) (rest_kept r))
    ∙ go o.kind o.units (passed_all os (drop (inserted o.kind o.units) bank) r)
  where
    go : (k : Kind) (n : ℕ) → steps_passed (steps_of os (drop (inserted k n) bank) ++ rest_kept r) ≡ all_passed os + r
        → steps_passed (run_steps k n o.attrs (take (inserted k n) bank) ++ (steps_of os (drop (inserted k n) bank) ++ rest_kept r)) ≡ passed k n + all_passed os + r
    go kind.Keep n e = passed_times n (Keep o.attrs) _ ∙ omega (arith, e)
    go kind.Drop n e = passed_times n Drop _ ∙ omega (arith, e)
    go kind.Insert n e = passed_inserts (cells o.attrs (take n bank)) _ ∙ omega (arith, e)

pub length_is : (n : ℕ) (ops : List Op) (bank : Text) → all_passed ops ≤ n → length (change_of n ops bank).edit.places ≡ n
length_is n ops bank h = length-settle [] (steps_of ops bank ++ rest_kept (n - all_passed ops)) ∙ passed_all ops bank (n - all_passed ops) ∙ omega arith
