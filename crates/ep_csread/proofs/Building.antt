-- The change of operations, one after the other.
use Rattle.std.proofs.Common.{◌≡◌, ℕ, zero, suc, ◌+◌, ◌-◌, ◌<◌, ◌≤◌, List, [], ◌∷◌, ◌++◌, length, take, drop, get_or, replicate, refl, sym, ap, ap₂, ◌∙◌, subst, arith, append_assoc, append-nil, length-take-le, length-drop}
use Rattle.std.proofs.lemmas.List.{drop_more, drop-drop}
use Rattle.ep_units.specs.Text.{Text}
use Rattle.ep_attr.specs.AttrMap.{AttrMap}
use Rattle.ep_cs.specs.Edit.{Step, inserts}
use Rattle.ep_cs.specs.Edit.Fate.{Drop, Keep}
use Rattle.ep_cs.specs.Edit.Step.{Insert, Pass}
use Rattle.ep_cs.specs.Steps.{passed as steps_passed}
use Rattle.ep_cs.specs.declared.op.Kind.{Kind}
use Rattle.ep_cs.specs.declared.op.Kind.TheVariants as kinds
use Rattle.ep_cs.specs.declared.op.Op.{Op}
use Rattle.ep_cs.specs.Runs.{cells, inserted, passed, all_inserted, all_passed, op_steps, run_steps, steps_of, run_marks, marks_of}
use Rattle.ep_cs.specs.Change.{change_of}
use Rattle.ep_cs.specs.Draft.{Draft, blank, drafted, dropped_by, inserted_by, new_length}
use Rattle.ep_cs.specs.NormalRuns.{AreLined}
use Rattle.ep_cs.proofs.Drafts.{drafted_is, dropped-append, inserted-append, dropped_times, kept_times, inserted_times, inserted_units}
use Rattle.ep_csread.specs.Reading.{dropped, all_dropped}
use Rattle.ep_csread.specs.Built.{putting, NewHasNoEmpty, NewHaveNoEmpty}

-- what a builder has begun of the first n operations, which insert the first units of the bank
pub record IsSoFar (old : ℕ) (ops : List Op) (bank : Text) (n used : ℕ) (d : Draft) : Type 0 where
  pub same_old : d.old ≡ old
  pub steps : d.steps ++ steps_of (drop n ops) (drop used bank) ≡ steps_of ops bank
  pub marks : d.marks ++ marks_of (drop n ops) ≡ marks_of ops
  pub room : used + all_inserted (drop n ops) ≡ length bank
  pub few : inserted_by d.steps ≡ used
  pub inside : steps_passed d.steps + all_passed (drop n ops) ≤ old
  pub lined : AreLined (drop n ops)
  pub no_empty : NewHaveNoEmpty (drop n ops)

pub begins : (old : ℕ) (ops : List Op) (bank : Text) → all_inserted ops ≡ length bank → all_passed ops ≤ old → AreLined ops → NewHaveNoEmpty ops → IsSoFar old ops bank 0 0 (blank old)
begins old ops bank whole inside lined no_empty = record {
  same_old = refl;
  steps = refl;
  marks = refl;
  room = omega (arith, whole);
  few = refl;
  inside = omega (arith, inside);
  lined = lined;
  no_empty = no_empty;
}

steps_put : (k : Kind) (n : ℕ) (m : AttrMap) (lines : ℕ) (d : Draft) (text : Text) → NewHasNoEmpty k m → (putting k d n lines m text).steps ≡ d.steps ++ run_steps k n m text
steps_put kinds.Keep n m lines d text e = refl
steps_put kinds.Drop n m lines d text e = refl
steps_put kinds.Insert n m lines d text e = ap (λ (m : AttrMap). d.steps ++ inserts (cells m text)) (sym e)

marks_put : (k : Kind) (n : ℕ) (m : AttrMap) (lines : ℕ) (d : Draft) (text : Text) → (putting k d n lines m text).marks ≡ d.marks ++ run_marks k n lines
marks_put kinds.Keep n m lines d text = refl
marks_put kinds.Drop n m lines d text = refl
marks_put kinds.Insert n m lines d text = sym (append-nil d.marks)

old_put : (k : Kind) (n : ℕ) (m : AttrMap) (lines : ℕ) (d : Draft) (text : Text) → (putting k d n lines m text).old ≡ d.old
old_put kinds.Keep n m lines d text = refl
old_put kinds.Drop n m lines d text = refl
old_put kinds.Insert n m lines d text = refl

inserted_run : (k : Kind) (n : ℕ) (m : AttrMap) (text : Text) → length text ≡ inserted k n → inserted_by (run_steps k n m text) ≡ inserted k n
inserted_run kinds.Keep n m text e = (kept_times n m).1
inserted_run kinds.Drop n m text e = inserted_times n
inserted_run kinds.Insert n m text e = (inserted_units m text).1 ∙ e

dropped_run : (k : Kind) (n : ℕ) (m : AttrMap) (text : Text) → dropped_by (run_steps k n m text) ≡ dropped k n
dropped_run kinds.Keep n m text = (kept_times n m).0
dropped_run kinds.Drop n m text = dropped_times n
dropped_run kinds.Insert n m text = (inserted_units m text).0

passed_run : (k : Kind) (n : ℕ) (m : AttrMap) (text : Text) → steps_passed (run_steps k n m text) ≡ passed k n
passed_run kinds.Keep n m text = times n
  where
    times : (n : ℕ) → steps_passed (replicate n (Pass (Keep m))) ≡ n
    times zero = refl
    times (suc n) = omega (arith, times n)
passed_run kinds.Drop n m text = times n
  where
    times : (n : ℕ) → steps_passed (replicate n (Pass Drop)) ≡ n
    times zero = refl
    times (suc n) = omega (arith, times n)
passed_run kinds.Insert n m text = none text
  where
    none : (us : Text) → steps_passed (inserts (cells m us)) ≡ 0
    none [] = refl
    none (u ∷ us) = none us

passed-append : (s t : List Step) → steps_passed (s ++ t) ≡ steps_passed s + steps_passed t
passed-append [] t = omega arith
passed-append (Insert c ∷ s) t = passed-append s t
passed-append (Pass f ∷ s) t = omega (arith, passed-append s t)

-- what is known of the next operation
pub record HasNext (old : ℕ) (bank : Text) (used : ℕ) (d : Draft) (o : Op) : Type 0 where
  pub here : used + inserted o.kind o.units ≤ length bank
  pub inside : steps_passed d.steps + passed o.kind o.units ≤ d.old
  pub lined : o.lines ≤ o.units

next : (ops : List Op) (n : ℕ) (o : Op) → n < length ops → o ≡ get_or ops n o → drop n ops ≡ o ∷ drop (n + 1) ops
next ops n o h e = drop_more ops n o h ∙ ap (λ (p : Op). p ∷ drop (n + 1) ops) (sym e)

pub has_next : (old : ℕ) (ops : List Op) (bank : Text) (n used : ℕ) (d : Draft) (o : Op) → IsSoFar old ops bank n used d → n < length ops → o ≡ get_or ops n o → HasNext old bank used d o
has_next old ops bank n used d o s h e =
    let i = next ops n o h e in
    record {
      here = omega (arith, s.room, ap all_inserted i);
      inside = omega (arith, s.same_old, s.inside, ap all_passed i);
      lined = (subst AreLined i s.lined).0;
    }

pub goes_on : (old : ℕ) (ops : List Op) (bank text : Text) (n used : ℕ) (d d' : Draft) (o : Op) → IsSoFar old ops bank n used d → n < length ops → o ≡ get_or ops n o
    → text ≡ take (inserted o.kind o.units) (drop used bank) → d' ≡ putting o.kind d o.units o.lines o.attrs text → IsSoFar old ops bank (n + 1) (used + inserted o.kind o.units) d'
goes_on old ops bank text n used d d' o s h e t is =
    let i = next ops n o h e in
    let k = inserted o.kind o.units in
    let no_empty = subst NewHaveNoEmpty i s.no_empty in
    let width : length text ≡ k = ap length t ∙ length-take-le k (drop used bank) (omega (arith, length-drop used bank, s.room, ap all_inserted i)) in
    let steps : d'.steps ≡ d.steps ++ op_steps o text = ap (λ (d : Draft). d.steps) is ∙ steps_put o.kind o.units o.attrs o.lines d text no_empty.0 in
    let rest = steps_of (drop (n + 1) ops) (drop (used + k) bank) in
    record {
      same_old = ap (λ (d : Draft). d.old) is ∙ old_put o.kind o.units o.attrs o.lines d text ∙ s.same_old;
      steps =
          ap (λ (ss : List Step). ss ++ rest) steps ∙ append_assoc d.steps (op_steps o text) rest
          ∙ ap₂ (λ (us vs : Text). d.steps ++ (op_steps o us ++ steps_of (drop (n + 1) ops) vs)) t (sym (drop-drop k used bank))
          ∙ ap (λ (os : List Op). d.steps ++ steps_of os (drop used bank)) (sym i) ∙ s.steps;
      marks =
          ap (λ (ms : List ℕ). ms ++ marks_of (drop (n + 1) ops)) (ap (λ (d : Draft). d.marks) is ∙ marks_put o.kind o.units o.attrs o.lines d text)
          ∙ append_assoc d.marks (run_marks o.kind o.units o.lines) (marks_of (drop (n + 1) ops))
          ∙ ap (λ (os : List Op). d.marks ++ marks_of os) (sym i) ∙ s.marks;
      room = omega (arith, s.room, ap all_inserted i);
      few = ap inserted_by steps ∙ inserted-append d.steps (op_steps o text) ∙ ap₂ (λ (a b : ℕ). a + b) s.few (inserted_run o.kind o.units o.attrs text width);
      inside = omega (arith, s.inside, ap all_passed i, ap steps_passed steps, passed-append d.steps (op_steps o text), passed_run o.kind o.units o.attrs text);
      lined = (subst AreLined i s.lined).1;
      no_empty = no_empty.1;
    }

dropped_all : (ops : List Op) (bank : Text) → dropped_by (steps_of ops bank) ≡ all_dropped ops
dropped_all [] bank = refl
dropped_all (o ∷ os) bank =
    let k = inserted o.kind o.units in
    dropped-append (op_steps o (take k bank)) (steps_of os (drop k bank))
    ∙ ap₂ (λ (a b : ℕ). a + b) (dropped_run o.kind o.units o.attrs (take k bank)) (dropped_all os (drop k bank))

-- what a builder has begun of all operations
pub record IsAll (old : ℕ) (ops : List Op) (bank : Text) (d : Draft) : Type 0 where
  pub change : drafted d ≡ change_of old ops bank
  pub new : new_length d ≡ old - all_dropped ops + all_inserted ops

pub is_all : (old : ℕ) (ops : List Op) (bank : Text) (n used : ℕ) (d : Draft) → IsSoFar old ops bank n used d → drop n ops ≡ [] → all_inserted ops ≡ length bank → IsAll old ops bank d
is_all old ops bank n used d s e whole =
    let steps : d.steps ≡ steps_of ops bank = sym (append-nil d.steps) ∙ ap (λ (os : List Op). d.steps ++ steps_of os (drop used bank)) (sym e) ∙ s.steps in
    let marks : d.marks ≡ marks_of ops = sym (append-nil d.marks) ∙ ap (λ (os : List Op). d.marks ++ marks_of os) (sym e) ∙ s.marks in
    let same : d ≡ record { old = old; steps = steps_of ops bank; marks = marks_of ops } = λ i. record { old = s.same_old i; steps = steps i; marks = marks i } in
    record {
      change = ap drafted same ∙ drafted_is old ops bank;
      new = omega (arith, s.same_old, ap dropped_by steps, dropped_all ops bank, s.few, s.room, ap all_inserted e, whole);
    }

pub drop_end : (ops : List Op) (n : ℕ) → n ≡ length ops → drop n ops ≡ []
drop_end ops n e = ap (λ (k : ℕ). drop k ops) e ∙ all ops
  where
    all : (ops : List Op) → drop (length ops) ops ≡ []
    all [] = refl
    all (o ∷ os) = all os

dropped_within : (k : Kind) (n : ℕ) → dropped k n ≤ passed k n
dropped_within kinds.Keep n = omega arith
dropped_within kinds.Drop n = omega arith
dropped_within kinds.Insert n = omega arith

pub all_dropped_within : (os : List Op) → all_dropped os ≤ all_passed os
all_dropped_within [] = omega arith
all_dropped_within (o ∷ os) = omega (arith, dropped_within o.kind o.units, all_dropped_within os)
