-- A draft of which the last run goes on.
use Rattle.std.proofs.Common.{◌≡◌, ℕ, zero, suc, ◌+◌, ◌-◌, ◌<◌, ◌≤◌, ◌^◌, List, [], ◌∷◌, ◌++◌, length, replicate, refl, sym, ap, ap₂, ◌∙◌, subst, arith, append_assoc, append-nil}
use Rattle.std.proofs.Math.ListN.{get_or, set}
use Rattle.std.proofs.lemmas.List.{replicate-append-replicate, set_at}
use Rattle.ep_units.specs.Text.{Text}
use Rattle.ep_attr.specs.AttrMap.{AttrMap}
use Rattle.ep_cs.specs.Edit.{Step}
use Rattle.ep_cs.specs.Edit.Fate.{Keep}
use Rattle.ep_cs.specs.Edit.Step.{Pass}
use Rattle.ep_cs.specs.declared.op.Kind.TheVariants as kind
use Rattle.ep_cs.specs.declared.op.Op.{Op}
use Rattle.ep_cs.specs.declared.builder.Builder.TheInside as builder
use Rattle.ep_cs.specs.NormalRuns.{AreLined}
use Rattle.ep_cs.specs.Packed.{begun, IsBegun}
use Rattle.ep_cs.specs.Runs.{passed, steps_of, marked, marks_of, all_passed}
use Rattle.ep_cs.specs.Written.{AreWritten}
use Rattle.ep_cs.specs.Longer.{GoesOn, LastGoesOn}
use Rattle.ep_cs.specs.Draft.{Draft, keeping, dropped_by, inserted_by, new_length}
use Rattle.ep_cs.proofs.Drafts.{steps_more, written_more, marks_more, new_kept, dropped-append, inserted-append}
use Rattle.ep_cs.proofs.Taking.{all_passed-append}
use Rattle.ep_cs.proofs.Roomy.{lined-append}

-- ---- lists by their last element

pub last_split : (os : List Op) (n : ℕ) (d : Op) → length os ≡ n + 1 → (front : List Op) × (os ≡ front ++ get_or os n d ∷ []) × (length front ≡ n)
last_split [] n d e = absurd (omega (arith, e))
last_split (o ∷ []) zero d e = ([], refl, refl)
last_split (o ∷ []) (suc n) d e = absurd (omega (arith, e))
last_split (o ∷ (p ∷ os)) zero d e = absurd (omega (arith, e))
last_split (o ∷ (p ∷ os)) (suc n) d e = let r = last_split (p ∷ os) n d (omega (arith, e)) in (o ∷ r.0, ap (λ xs. o ∷ xs) r.1, omega (arith, r.2))

-- where the last one goes on, so does the list
pub last_goes_on : (os : List Op) (n units lines : ℕ) (m : AttrMap) (o p : Op) → length os ≡ n + 1 → o ≡ get_or os n o → GoesOn o units lines m p → LastGoesOn os units lines m (set os n p)
last_goes_on os n units lines m o p e is goes =
    let s = last_split os n o e in
    let all : os ≡ s.0 ++ o ∷ [] = s.1 ∙ ap (λ x. s.0 ++ x ∷ []) (sym is) in
    (s.0, o, p, all, goes, ap (λ xs. set xs n p) all ∙ set_at s.0 o [] p n s.2)

-- what the last one passes is passed
pub last_passes : (os : List Op) (n k : ℕ) (o : Op) → length os ≡ n + 1 → o ≡ get_or os n o → all_passed os + k < 2 ^ 32 → passed o.kind o.units + k < 2 ^ 32
last_passes os n k o e is h =
    let s = last_split os n o e in
    let all : os ≡ s.0 ++ o ∷ [] = s.1 ∙ ap (λ x. s.0 ++ x ∷ []) (sym is) in
    omega (arith, h, ap all_passed all, all_passed-append s.0 (o ∷ []))

-- ---- a kept run as the last one

abbrev kept : ℕ → ℕ → AttrMap → Op
kept a l m = record { kind = kind.Keep; units = a; lines = l; attrs = m }

front_written : (front : List Op) (a l : ℕ) (m : AttrMap) (bank : Text) → AreWritten (front ++ kept a l m ∷ []) bank → AreWritten front bank × (1 ≤ a)
front_written [] a l m bank h = (h.1, h.0)
front_written (q ∷ front) a l m bank h = let r = front_written front a l m _ h.1 in ((h.0, r.0), r.1)

front_lined : (front : List Op) (o : Op) → AreLined (front ++ o ∷ []) → AreLined front
front_lined [] o h = tt
front_lined (q ∷ front) o h = (h.0, front_lined front o h.1)

steps_kept : (front : List Op) (a l : ℕ) (m : AttrMap) (bank : Text) → AreWritten front bank → steps_of (front ++ kept a l m ∷ []) bank ≡ steps_of front bank ++ replicate a (Pass (Keep m))
steps_kept front a l m bank h = ap (steps_of (front ++ kept a l m ∷ [])) (sym (append-nil bank)) ∙ steps_more front (kept a l m) bank [] h refl

written_kept : (front : List Op) (a l : ℕ) (m : AttrMap) (bank : Text) → AreWritten front bank → 1 ≤ a → AreWritten (front ++ kept a l m ∷ []) bank
written_kept front a l m bank h some = subst (AreWritten (front ++ kept a l m ∷ [])) (append-nil bank) (written_more front (kept a l m) bank [] h refl some)

marked_more : (a n l : ℕ) → 1 ≤ a → 1 ≤ n → marked (a + n) l ≡ marked a 0 ++ marked n l
marked_more zero n l h k = absurd (omega (arith, h))
marked_more (suc a) zero l h k = absurd (omega (arith, k))
marked_more (suc a) (suc n) l h k =
    let e : suc a + suc n ≡ suc (a + suc n) = omega arith in
    ap (λ (q : ℕ). marked q l) e
    ∙ ap (λ ms. ms ++ l ∷ []) (sym (replicate-append-replicate a (suc n) 0)) ∙ append_assoc (replicate a 0) (replicate (suc n) 0) (l ∷ [])
    ∙ sym (append_assoc (replicate a 0) (0 ∷ []) (marked (suc n) l))

-- ---- the draft

kept_longer : (front : List Op) (a n l : ℕ) (m : AttrMap) (bank : Text) → AreWritten (front ++ kept a 0 m ∷ []) bank → 1 ≤ n
    → (steps_of (front ++ kept (a + n) l m ∷ []) bank ≡ steps_of (front ++ kept a 0 m ∷ []) bank ++ replicate n (Pass (Keep m)))
    × (marks_of (front ++ kept (a + n) l m ∷ []) ≡ marks_of (front ++ kept a 0 m ∷ []) ++ marked n l)
kept_longer front a n l m bank h some =
    let w = front_written front a 0 m bank h in (
      steps_kept front (a + n) l m bank w.0 ∙ ap (λ s. steps_of front bank ++ s) (sym (replicate-append-replicate a n (Pass (Keep m))))
          ∙ sym (append_assoc (steps_of front bank) (replicate a (Pass (Keep m))) (replicate n (Pass (Keep m))))
          ∙ ap (λ s. s ++ replicate n (Pass (Keep m))) (sym (steps_kept front a 0 m bank w.0)),
      marks_more front (kept (a + n) l m) ∙ ap (λ ms. marks_of front ++ ms) (marked_more a n l w.1 some)
          ∙ sym (append_assoc (marks_of front) (marked a 0) (marked n l)) ∙ ap (λ ms. ms ++ marked n l) (sym (marks_more front (kept a 0 m))),
    )

-- the builder's last run went on
pub record IsLonger (b c : builder.Inside) (units lines : ℕ) (m : AttrMap) : Type 0 where
  pub old : c.old_len ≡ b.old_len
  pub new : c.new_len ≡ b.new_len
  pub bank : c.bank ≡ b.bank
  pub ops : LastGoesOn b.ops.items units lines m c.ops.items
  pub some : 1 ≤ units

-- as runs that are known
record Parts (b c : builder.Inside) (units lines : ℕ) (m : AttrMap) : Type 0 where
  front : List Op
  a : ℕ
  was : b.ops.items ≡ front ++ kept a 0 m ∷ []
  is : c.ops.items ≡ front ++ kept (a + units) lines m ∷ []

parts : (b c : builder.Inside) (units lines : ℕ) (m : AttrMap) → IsLonger b c units lines m → Parts b c units lines m
parts b c units lines m x =
    let t = x.ops in
    let o = t.1 in
    let g = t.4 in
    let same : o ≡ kept o.units 0 m = λ i. record { kind = g.0 i; units = o.units; lines = g.1 i; attrs = g.2 i } in
    record { front = t.0; a = o.units; was = t.3 ∙ ap (λ y. t.0 ++ y ∷ []) same; is = t.5 ∙ ap (λ y. t.0 ++ y ∷ []) g.3 }

pub begun_longer : (b c : builder.Inside) (units lines : ℕ) (m : AttrMap) → IsBegun b → IsLonger b c units lines m → begun c ≡ keeping (begun b) units lines m
begun_longer b c units lines m t x =
    let p = parts b c units lines m x in
    let k = kept_longer p.front p.a units lines m b.bank (subst (λ os. AreWritten os b.bank) p.was t.written) x.some in
    let steps : steps_of c.ops.items c.bank ≡ steps_of b.ops.items b.bank ++ replicate units (Pass (Keep m)) =
    ap₂ steps_of p.is x.bank ∙ k.0 ∙ ap (λ os. steps_of os b.bank ++ replicate units (Pass (Keep m))) (sym p.was) in
    let marks : marks_of c.ops.items ≡ marks_of b.ops.items ++ marked units lines = ap marks_of p.is ∙ k.1 ∙ ap (λ os. marks_of os ++ marked units lines) (sym p.was) in
    λ i. record { old = x.old i; steps = steps i; marks = marks i }

pub is_begun_longer : (b c : builder.Inside) (units lines : ℕ) (m : AttrMap) → IsBegun b → IsLonger b c units lines m → lines ≤ units → all_passed b.ops.items + units ≤ b.old_len → IsBegun c
is_begun_longer b c units lines m t x lined room =
    let p = parts b c units lines m x in
    let w = front_written p.front p.a 0 m b.bank (subst (λ os. AreWritten os b.bank) p.was t.written) in
    let here : 1 ≤ p.a + units = omega (arith, w.1) in
    record {
      inside =
          omega (arith, room, x.old, ap all_passed p.was, ap all_passed p.is, all_passed-append p.front (kept p.a 0 m ∷ []), all_passed-append p.front (kept (p.a + units) lines m ∷ []));
      written = subst (λ (y : List Op × Text). AreWritten y.0 y.1) (λ i. (sym p.is i, sym x.bank i)) (written_kept p.front (p.a + units) lines m b.bank w.0 here);
      lined = subst AreLined (sym p.is) (lined-append p.front (kept (p.a + units) lines m ∷ []) (front_lined p.front (kept p.a 0 m) (subst AreLined p.was t.lined)) (omega (arith, lined), tt));
      new =
          x.new ∙ new_kept b units m t
          ∙ ap₂ (λ (y z : ℕ). b.old_len - y + z) (sym (dropped-append (begun b).steps (replicate units (Pass (Keep m))))) (sym (inserted-append (begun b).steps (replicate units (Pass (Keep m)))))
          ∙ ap new_length (sym (begun_longer b c units lines m t x));
      few = subst (λ (us : Text). length us < 2 ^ 32) (sym x.bank) t.few;
      old = omega (arith, x.old, t.old);
    }
