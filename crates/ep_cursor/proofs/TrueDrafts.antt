-- What is written stays true of a text.
use Rattle.std.proofs.Common.{◌≡◌, ℕ, ◌≤◌, List, [], ◌∷◌, ◌++◌, length, take, drop, refl, sym, ap, ◌∙◌, subst, arith, drop-drop, length-drop, length-append, append-nil}
use Rattle.std.proofs.Math.Seq.{take-append_seam}
use Rattle.ep_units.specs.Text.{Text}
use Rattle.ep_attr.specs.AttrMap.{AttrMap, none, after}
use Rattle.ep_cs.specs.Steps.{passed as steps_passed}
use Rattle.ep_cs.specs.Draft.{Draft, drafted, keeping, dropping, inserting, blank}
use Rattle.ep_cs.specs.declared.op.Kind.TheVariants as kind
use Rattle.ep_cs.specs.declared.op.Op.{Op}
use Rattle.ep_cs.specs.Runs.{op_steps, steps_of, marks_of, passed, inserted, run_marks, all_passed}
use Rattle.ep_cs.specs.Change.{Change, stamped, newlines}
use Rattle.ep_cs.specs.NormalRuns.{IsLined, IsTrueRun, AreTrue}
use Rattle.ep_cs.specs.Written.{IsWritten}
use Rattle.ep_cs.proofs.Drafts.{steps_more, written_more, marks_more, passed_are, drafted_is, once}
use Rattle.ep_cs.proofs.Taking.{all_passed-append}
use Rattle.ep_cs.proofs.Truth.{true_change}
use Rattle.ep_cursor.specs.TrueDraft.{IsTrueDraft}

trues-append : (ops : List Op) (o : Op) (us : Text) → AreTrue ops us → IsTrueRun o.kind o.units o.lines (take (passed o.kind o.units) (drop (all_passed ops) us)) → AreTrue (ops ++ o ∷ []) us
trues-append [] o us h is = (is, tt)
trues-append (p ∷ ops) o us h is =
    (h.0, trues-append ops o (drop (passed p.kind p.units) us) h.1 (subst (λ vs. IsTrueRun o.kind o.units o.lines (take (passed o.kind o.units) vs)) (sym (drop-drop (all_passed ops) (passed p.kind p.units) us)) is))

-- one more run is written
pub draft_more : (d d' : Draft) (us : Text) (o : Op) (text : Text) → IsTrueDraft d us
    → d'.steps ≡ d.steps ++ op_steps o text → d'.marks ≡ d.marks ++ run_marks o.kind o.units o.lines
    → length text ≡ inserted o.kind o.units → IsWritten o.kind o.units o.attrs text
    → passed o.kind o.units ≤ length (drop (steps_passed d.steps) us) → IsTrueRun o.kind o.units o.lines (take (passed o.kind o.units) (drop (steps_passed d.steps) us))
    → IsTrueDraft d' us
draft_more d d' us o text t steps marks width is room here =
    let at : steps_passed d.steps ≡ all_passed t.ops = ap steps_passed t.steps ∙ passed_are t.ops t.bank in
    record {
      ops = t.ops ++ o ∷ [];
      bank = t.bank ++ text;
      steps = steps ∙ ap (λ s. s ++ op_steps o text) t.steps ∙ sym (steps_more t.ops o t.bank text t.written width);
      marks = marks ∙ ap (λ ms. ms ++ run_marks o.kind o.units o.lines) t.marks ∙ sym (marks_more t.ops o);
      written = written_more t.ops o t.bank text t.written width is;
      inside = omega (arith, all_passed-append t.ops (o ∷ []), at, room, length-drop (steps_passed d.steps) us, t.inside);
      trues = trues-append t.ops o us t.trues (subst (λ (p : ℕ). IsTrueRun o.kind o.units o.lines (take (passed o.kind o.units) (drop p us))) at here);
    }

-- the text goes on with these units, which hold so many newlines
pub record GoesOn (d : Draft) (us front rest : Text) (n lines : ℕ) : Type 0 where
  pub is : drop (steps_passed d.steps) us ≡ front ++ rest
  pub long : length front ≡ n
  pub some : 1 ≤ n
  pub lined : IsLined lines (newlines front)

room_on : (d : Draft) (us front rest : Text) (n lines : ℕ) → GoesOn d us front rest n lines → n ≤ length (drop (steps_passed d.steps) us)
room_on d us front rest n lines g = omega (arith, ap length g.is, length-append front rest, g.long)

lined_on : (d : Draft) (us front rest : Text) (n lines : ℕ) → GoesOn d us front rest n lines → IsLined lines (newlines (take n (drop (steps_passed d.steps) us)))
lined_on d us front rest n lines g =
    let e : take n (drop (steps_passed d.steps) us) ≡ front = ap (take n) g.is ∙ ap (λ (k : ℕ). take k (front ++ rest)) (sym g.long) ∙ take-append_seam front rest in
    subst (λ vs. IsLined lines (newlines vs)) (sym e) g.lined

pub true_keep : (d : Draft) (us front rest : Text) (n lines : ℕ) (m : AttrMap) → IsTrueDraft d us → GoesOn d us front rest n lines → IsTrueDraft (keeping d n lines m) us
true_keep d us front rest n lines m t g =
    draft_more d (keeping d n lines m) us (record { kind = kind.Keep; units = n; lines = lines; attrs = m }) [] t refl refl refl g.some (room_on d us front rest n lines g) (g.some, lined_on d us front rest n lines g)

pub true_drop : (d : Draft) (us front rest : Text) (n lines : ℕ) → IsTrueDraft d us → GoesOn d us front rest n lines → IsTrueDraft (dropping d n lines) us
true_drop d us front rest n lines t g =
    draft_more d (dropping d n lines) us (record { kind = kind.Drop; units = n; lines = lines; attrs = none }) [] t refl refl refl (g.some, refl) (room_on d us front rest n lines g) (g.some, lined_on d us front rest n lines g)

pub true_insert : (d : Draft) (us text : Text) (m : AttrMap) → IsTrueDraft d us → IsTrueDraft (inserting d text m) us
true_insert d us text m t =
    draft_more d (inserting d text m) us (record { kind = kind.Insert; units = length text; lines = 0; attrs = after none m }) text t refl (sym (append-nil d.marks)) refl (refl, once m) (omega arith) tt

-- nothing is written
pub true_blank : (n : ℕ) (us : Text) → IsTrueDraft (blank n) us
true_blank n us = record { ops = []; bank = []; steps = refl; marks = refl; written = refl; inside = omega arith; trues = tt }

-- a change that is true of a text of its length is the one that makes its edit and fits that text
pub true_drafted : (d : Draft) (us : Text) → IsTrueDraft d us → length us ≡ d.old → drafted d ≡ stamped (drafted d).edit us
true_drafted d us t long =
    let told : Draft = record { old = length us; steps = steps_of t.ops t.bank; marks = marks_of t.ops } in
    let same : d ≡ told = λ i. record { old = sym long i; steps = t.steps i; marks = t.marks i } in
    let is = ap drafted same ∙ drafted_is (length us) t.ops t.bank in
    is ∙ true_change t.ops t.bank us t.trues t.inside ∙ ap (λ (c : Change). stamped c.edit us) (sym is)
