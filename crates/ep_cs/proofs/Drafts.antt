-- What a builder has begun, call by call.
use Rattle.std.proofs.Common.{◌≡◌, ℕ, zero, suc, ◌+◌, ◌-◌, ◌<◌, ◌≤◌, ◌^◌, List, [], ◌∷◌, ◌++◌, length, take, drop, replicate, Option, Some, None, refl, sym, ap, ap₂, ◌∙◌, subst, arith, append_assoc, append-nil}
use Rattle.std.proofs.lemmas.List.{take-append-le, drop-append-le}
use Rattle.std.proofs.Math.Seq.{take-length}
use Rattle.ep_units.specs.Text.{Text}
use Rattle.ep_attr.specs.AttrMap.{AttrMap, none, get, after, value_after}
use Rattle.ep_attr.proofs.Maps.{same_values, get-after}
use Rattle.ep_cs.specs.Edit.{Step, Item, inserts, edit_of, painted_item, numbered}
use Rattle.ep_cs.specs.Edit.Fate.{Drop, Keep}
use Rattle.ep_cs.specs.Edit.Step.{Insert, Pass}
use Rattle.ep_cs.specs.Edit.Item.{New}
use Rattle.ep_cs.specs.Steps.{passed as steps_passed, run as run_steps_on}
use Rattle.ep_cs.specs.declared.op.Kind.{Kind}
use Rattle.ep_cs.specs.declared.op.Kind.TheVariants as kind
use Rattle.ep_cs.specs.declared.op.Op.{Op}
use Rattle.ep_cs.specs.declared.builder.Builder.TheInside as builder
use Rattle.ep_cs.specs.NormalRuns.{AreLined}
use Rattle.ep_cs.specs.Packed.{begun, IsBegun}
use Rattle.ep_cs.specs.Runs.{cells, inserted, passed, run_steps, op_steps, steps_of, run_marks, marks_of, all_passed, all_inserted, rest_kept}
use Rattle.ep_cs.specs.Written.{IsWritten, AreWritten}
use Rattle.ep_cs.specs.Change.{change_of, change_with}
use Rattle.ep_cs.specs.Spelling.{new_len}
use Rattle.ep_cs.specs.Draft.{Draft, drafted, dropped_by, inserted_by, new_length}
use Rattle.ep_cs.proofs.Composed.{over-settle}
use Rattle.ep_cs.proofs.Items.{length-settle, length-numbered}
use Rattle.ep_cs.proofs.RunBank.{passed_all, passed_times}
use Rattle.ep_cs.proofs.Taking.{begins, all_passed-append}
use Rattle.ep_cs.proofs.Roomy.{lined-append}

enough : (k : Kind) (n : ℕ) (m : AttrMap) (bank : Text) → IsWritten k n m (take (inserted k n) bank) → inserted k n ≤ length bank
enough kind.Keep n m bank h = omega arith
enough kind.Drop n m bank h = omega arith
enough kind.Insert n m bank h = at_least n bank h.0
  where
    at_least : (n : ℕ) (us : Text) → length (take n us) ≡ n → n ≤ length us
    at_least zero us e = omega arith
    at_least (suc n) [] e = absurd (omega (arith, e))
    at_least (suc n) (u ∷ us) e = omega (arith, at_least n us (omega (arith, e)))

-- one more operation
pub steps_more : (ops : List Op) (o : Op) (bank text : Text) → AreWritten ops bank → length text ≡ inserted o.kind o.units → steps_of (ops ++ o ∷ []) (bank ++ text) ≡ steps_of ops bank ++ op_steps o text
steps_more [] o bank text h e =
    ap (λ us. op_steps o (take (inserted o.kind o.units) (us ++ text)) ++ []) h ∙ append-nil _
    ∙ ap (λ (n : ℕ). op_steps o (take n text)) (sym e) ∙ ap (op_steps o) (take-length text)
steps_more (p ∷ ops) o bank text h e =
    let n = inserted p.kind p.units in
    let room = enough p.kind p.units p.attrs bank h.0 in
    ap₂ (λ us vs. op_steps p us ++ steps_of (ops ++ o ∷ []) vs) (take-append-le n bank text room) (drop-append-le n bank text room)
    ∙ ap (λ steps. op_steps p (take n bank) ++ steps) (steps_more ops o (drop n bank) text h.1 e)
    ∙ sym (append_assoc (op_steps p (take n bank)) (steps_of ops (drop n bank)) (op_steps o text))

pub written_more : (ops : List Op) (o : Op) (bank text : Text) → AreWritten ops bank → length text ≡ inserted o.kind o.units → IsWritten o.kind o.units o.attrs text → AreWritten (ops ++ o ∷ []) (bank ++ text)
written_more [] o bank text h e is =
    let whole : take (inserted o.kind o.units) text ≡ text = ap (λ (n : ℕ). take n text) (sym e) ∙ take-length text in
    subst (AreWritten (o ∷ [])) (ap (λ us. us ++ text) (sym h)) (subst (IsWritten o.kind o.units o.attrs) (sym whole) is, ap (λ (n : ℕ). drop n text) (sym e) ∙ drop_all text)
  where
    drop_all : (us : Text) → drop (length us) us ≡ []
    drop_all [] = refl
    drop_all (u ∷ us) = drop_all us
written_more (p ∷ ops) o bank text h e is =
    let n = inserted p.kind p.units in
    let room = enough p.kind p.units p.attrs bank h.0 in
    (subst (IsWritten p.kind p.units p.attrs) (sym (take-append-le n bank text room)) h.0, subst (AreWritten (ops ++ o ∷ [])) (sym (drop-append-le n bank text room)) (written_more ops o (drop n bank) text h.1 e is))

pub marks_more : (ops : List Op) (o : Op) → marks_of (ops ++ o ∷ []) ≡ marks_of ops ++ run_marks o.kind o.units o.lines
marks_more [] o = append-nil _
marks_more (p ∷ ops) o = ap (λ ms. run_marks p.kind p.units p.lines ++ ms) (marks_more ops o) ∙ sym (append_assoc (run_marks p.kind p.units p.lines) (marks_of ops) (run_marks o.kind o.units o.lines))

pub passed_are : (ops : List Op) (bank : Text) → steps_passed (steps_of ops bank) ≡ all_passed ops
passed_are ops bank = ap steps_passed (sym (append-nil (steps_of ops bank))) ∙ passed_all ops bank 0 ∙ omega arith

-- what a builder has begun is the change of its operations
pub drafted_is : (n : ℕ) (ops : List Op) (bank : Text) → drafted (record { old = n; steps = steps_of ops bank; marks = marks_of ops }) ≡ change_of n ops bank
drafted_is n ops bank = ap (λ (p : ℕ). change_with (edit_of (steps_of ops bank ++ rest_kept (n - p))) (marks_of ops)) (passed_are ops bank)

-- ---- lengths

dropped_within : (s : List Step) → dropped_by s ≤ steps_passed s
dropped_within [] = omega arith
dropped_within (Insert c ∷ s) = dropped_within s
dropped_within (Pass Drop ∷ s) = omega (arith, dropped_within s)
dropped_within (Pass (Keep m) ∷ s) = omega (arith, dropped_within s)

made_length : (s : List Step) (xs : List Item) → steps_passed s ≤ length xs → length (run_steps_on painted_item New s xs) + dropped_by s ≡ steps_passed s + inserted_by s
made_length [] xs h = refl
made_length (Insert c ∷ s) xs h = omega (arith, made_length s xs h)
made_length (Pass f ∷ s) [] h = absurd (omega (arith, h))
made_length (Pass Drop ∷ s) (x ∷ xs) h = omega (arith, made_length s xs (omega (arith, h)))
made_length (Pass (Keep m) ∷ s) (x ∷ xs) h = omega (arith, made_length s xs (omega (arith, h)))

pub dropped-append : (s t : List Step) → dropped_by (s ++ t) ≡ dropped_by s + dropped_by t
dropped-append [] t = omega arith
dropped-append (Insert c ∷ s) t = dropped-append s t
dropped-append (Pass Drop ∷ s) t = omega (arith, dropped-append s t)
dropped-append (Pass (Keep m) ∷ s) t = dropped-append s t

pub inserted-append : (s t : List Step) → inserted_by (s ++ t) ≡ inserted_by s + inserted_by t
inserted-append [] t = omega arith
inserted-append (Insert c ∷ s) t = omega (arith, inserted-append s t)
inserted-append (Pass f ∷ s) t = inserted-append s t

passed-append : (s t : List Step) → steps_passed (s ++ t) ≡ steps_passed s + steps_passed t
passed-append [] t = omega arith
passed-append (Insert c ∷ s) t = passed-append s t
passed-append (Pass f ∷ s) t = omega (arith, passed-append s t)

pub dropped_times : (n : ℕ) → dropped_by (replicate n (Pass Drop)) ≡ n
dropped_times zero = refl
dropped_times (suc n) = omega (arith, dropped_times n)

pub kept_times : (n : ℕ) (m : AttrMap) → (dropped_by (replicate n (Pass (Keep m))) ≡ 0) × (inserted_by (replicate n (Pass (Keep m))) ≡ 0)
kept_times zero m = (refl, refl)
kept_times (suc n) m = kept_times n m

pub inserted_times : (n : ℕ) → inserted_by (replicate n (Pass Drop)) ≡ 0
inserted_times zero = refl
inserted_times (suc n) = inserted_times n

pub inserted_units : (m : AttrMap) (us : Text) → (dropped_by (inserts (cells m us)) ≡ 0) × (inserted_by (inserts (cells m us)) ≡ length us)
inserted_units m [] = (refl, refl)
inserted_units m (u ∷ us) = ((inserted_units m us).0, omega (arith, (inserted_units m us).1))

pub new_length_is : (d : Draft) → steps_passed d.steps ≤ d.old → new_len (drafted d).edit ≡ new_length d
new_length_is d h =
    let r = d.old - steps_passed d.steps in
    let s = d.steps ++ rest_kept r in
    let all : steps_passed s ≡ d.old = passed-append d.steps (rest_kept r) ∙ omega (arith, h, ap steps_passed (sym (append-nil (rest_kept r))), passed_times r (Keep none) []) in
    let places : length (edit_of s).places ≡ d.old = length-settle [] s ∙ all in
    let made = over-settle painted_item New [] s (numbered 0 (length (edit_of s).places)) in
    let whole = made_length s (numbered 0 (length (edit_of s).places)) (omega (arith, all, places, length-numbered 0 (length (edit_of s).places))) in
    omega (arith, ap length made, whole, all, dropped_within d.steps, h, dropped-append d.steps (rest_kept r), inserted-append d.steps (rest_kept r), (kept_times r none).0, (kept_times r none).1)

-- ---- one more call

-- the builder has begun one operation more
pub record IsMore (b c : builder.Inside) (o : Op) (text : Text) : Type 0 where
  pub old : c.old_len ≡ b.old_len
  pub ops : c.ops.items ≡ b.ops.items ++ o ∷ []
  pub bank : c.bank ≡ b.bank ++ text
  pub width : length text ≡ inserted o.kind o.units
  pub is : IsWritten o.kind o.units o.attrs text
  pub lined : o.lines ≤ o.units

pub begun_more : (b c : builder.Inside) (o : Op) (text : Text) → IsBegun b → IsMore b c o text
    → begun c ≡ record { old = b.old_len; steps = (begun b).steps ++ op_steps o text; marks = (begun b).marks ++ run_marks o.kind o.units o.lines }
begun_more b c o text t m =
    let steps : steps_of c.ops.items c.bank ≡ steps_of b.ops.items b.bank ++ op_steps o text = ap₂ steps_of m.ops m.bank ∙ steps_more b.ops.items o b.bank text t.written m.width in
    let marks : marks_of c.ops.items ≡ marks_of b.ops.items ++ run_marks o.kind o.units o.lines = ap marks_of m.ops ∙ marks_more b.ops.items o in
    λ i. record { old = m.old i; steps = steps i; marks = marks i }

pub is_begun : (b c : builder.Inside) (o : Op) (text : Text) → IsBegun b → IsMore b c o text
    → all_passed b.ops.items + passed o.kind o.units ≤ b.old_len
    → c.new_len ≡ b.old_len - (dropped_by (begun b).steps + dropped_by (op_steps o text)) + (inserted_by (begun b).steps + inserted_by (op_steps o text))
    → length c.bank < 2 ^ 32 → IsBegun c
is_begun b c o text t m room new few = record {
  inside = omega (arith, room, m.old, ap all_passed m.ops, all_passed-append b.ops.items (o ∷ []));
  written = subst (λ (x : List Op × Text). AreWritten x.0 x.1) (λ i. (sym m.ops i, sym m.bank i)) (written_more b.ops.items o b.bank text t.written m.width m.is);
  lined = subst AreLined (sym m.ops) (lined-append b.ops.items (o ∷ []) t.lined (m.lined, tt));
  new =
      new ∙ ap₂ (λ (x y : ℕ). b.old_len - x + y) (sym (dropped-append (begun b).steps (op_steps o text))) (sym (inserted-append (begun b).steps (op_steps o text)))
      ∙ ap new_length (sym (begun_more b c o text t m));
  few = few;
  old = omega (arith, m.old, t.old);
}

-- what a call has room for, in the builder's own terms
pub record HasLeft (b : builder.Inside) (units : ℕ) : Type 0 where
  pub places : all_passed b.ops.items + units ≤ b.old_len
  pub steps : steps_passed (begun b).steps + units ≤ b.old_len

pub room_left : (b : builder.Inside) (d : Draft) (units : ℕ) → begun b ≡ d → steps_passed d.steps + units ≤ d.old → HasLeft b units
room_left b d units e h =
    let here : steps_passed (begun b).steps + units ≤ b.old_len = subst (λ (d : Draft). steps_passed d.steps + units ≤ d.old) (sym e) h in
    record { places = omega (arith, here, passed_are b.ops.items b.bank); steps = here }

pub new_kept : (b : builder.Inside) (n : ℕ) (m : AttrMap) → IsBegun b
    → b.new_len ≡ b.old_len - (dropped_by (begun b).steps + dropped_by (replicate n (Pass (Keep m)))) + (inserted_by (begun b).steps + inserted_by (replicate n (Pass (Keep m))))
new_kept b n m t = let k = kept_times n m in omega (arith, t.new, k.0, k.1)

pub new_dropped : (b : builder.Inside) (n : ℕ) → IsBegun b → HasLeft b n
    → b.new_len - n ≡ b.old_len - (dropped_by (begun b).steps + dropped_by (replicate n (Pass Drop))) + (inserted_by (begun b).steps + inserted_by (replicate n (Pass Drop)))
new_dropped b n t h = omega (arith, t.new, h.steps, dropped_within (begun b).steps, dropped_times n, inserted_times n)

pub dropped_room : (b : builder.Inside) (n : ℕ) → IsBegun b → HasLeft b n → n ≤ b.new_len
dropped_room b n t h = omega (arith, t.new, h.steps, dropped_within (begun b).steps)

pub new_inserted : (b : builder.Inside) (m : AttrMap) (us : Text) → IsBegun b
    → b.new_len + length us ≡ b.old_len - (dropped_by (begun b).steps + dropped_by (inserts (cells m us))) + (inserted_by (begun b).steps + inserted_by (inserts (cells m us)))
new_inserted b m us t = let k = inserted_units m us in omega (arith, t.new, k.0, k.1)

inserted_are : (ops : List Op) (bank : Text) → AreWritten ops bank → inserted_by (steps_of ops bank) ≡ all_inserted ops
inserted_are [] bank h = refl
inserted_are (o ∷ os) bank h =
    inserted-append (op_steps o (take (inserted o.kind o.units) bank)) (steps_of os (drop (inserted o.kind o.units) bank))
    ∙ go o.kind h.0 (inserted_are os (drop (inserted o.kind o.units) bank) h.1)
  where
    go : (k : Kind) → IsWritten k o.units o.attrs (take (inserted k o.units) bank) → inserted_by (steps_of os (drop (inserted o.kind o.units) bank)) ≡ all_inserted os
        → inserted_by (run_steps k o.units o.attrs (take (inserted k o.units) bank)) + inserted_by (steps_of os (drop (inserted o.kind o.units) bank)) ≡ inserted k o.units + all_inserted os
    go kind.Keep is e = omega (arith, e, (kept_times o.units o.attrs).1)
    go kind.Drop is e = omega (arith, e, inserted_times o.units)
    go kind.Insert is e = omega (arith, e, (inserted_units o.attrs (take o.units bank)).1, is.0)

-- what is inserted stands in the bank
pub bank_inserted : (b : builder.Inside) → IsBegun b → inserted_by (begun b).steps ≡ length b.bank
bank_inserted b t = inserted_are b.ops.items b.bank t.written ∙ begins b.ops.items b.bank t.written

-- an inserted map without empty values stays as it is
pub once : (m : AttrMap) → after none m ≡ after none (after none m)
once m = same_values (after none m) (after none (after none m)) (λ q. get-after none m q ∙ step (get m q) ∙ sym (get-after none (after none m) q ∙ ap (value_after None) (get-after none m q)))
  where
    step : (v : Option Text) → value_after None v ≡ value_after None (value_after None v)
    step None = refl
    step (Some []) = refl
    step (Some (u ∷ us)) = refl
