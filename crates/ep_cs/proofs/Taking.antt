-- The walk from the last run to the first.
use Rattle.std.proofs.Common.{◌≡◌, ℕ, ◌+◌, ◌-◌, ◌≤◌, List, [], ◌∷◌, ◌++◌, reverse, length, take, drop, sym, ap, ap₂, ◌∙◌, subst, arith, append_assoc, drop-drop, length-append, take-append-drop}
use Rattle.std.proofs.lemmas.List.{reverse-append}
use Rattle.ep_units.specs.Text.{Text}
use Rattle.ep_cs.specs.declared.op.Kind.{Kind}
use Rattle.ep_cs.specs.declared.op.Kind.TheVariants as kind
use Rattle.ep_cs.specs.declared.op.Op.{Op}
use Rattle.ep_cs.specs.Runs.{inserted, all_inserted, all_passed}
use Rattle.ep_cs.specs.Written.{Front, front_of, put_front, normal_of, IsWritten, AreWritten}
use Rattle.ep_cs.specs.Taken.{made, Taken}

pub all_inserted-append : (a b : List Op) → all_inserted (a ++ b) ≡ all_inserted a + all_inserted b
all_inserted-append [] b = omega arith
all_inserted-append (o ∷ a) b = omega (arith, all_inserted-append a b)

pub all_passed-append : (a b : List Op) → all_passed (a ++ b) ≡ all_passed a + all_passed b
all_passed-append [] b = omega arith
all_passed-append (o ∷ a) b = omega (arith, all_passed-append a b)

pub written_rest : (a b : List Op) (bank : Text) → AreWritten (a ++ b) bank → AreWritten b (drop (all_inserted a) bank)
written_rest [] b bank h = h
written_rest (o ∷ a) b bank h =
    subst (AreWritten b) (drop-drop (all_inserted a) (inserted o.kind o.units) bank) (written_rest a b (drop (inserted o.kind o.units) bank) h.1)

pub begins : (ops : List Op) (bank : Text) → AreWritten ops bank → all_inserted ops ≡ length bank
begins [] bank h = sym (ap length h)
begins (o ∷ os) bank h = go o.kind h.0 (λ b n. begins os b n) h.1
  where
    go : (k : Kind) → IsWritten k o.units o.attrs (take (inserted k o.units) bank) → ((b : Text) → AreWritten os b → all_inserted os ≡ length b) → AreWritten os (drop (inserted k o.units) bank) → inserted k o.units + all_inserted os ≡ length bank
    go kind.Keep is again n = omega (arith, again bank n)
    go kind.Drop is again n = omega (arith, again bank n)
    go kind.Insert is again n =
        let parts : take o.units bank ++ drop o.units bank ≡ bank = take-append-drop o.units bank in
        omega (arith, again (drop o.units bank) n, is.0, length-append (take o.units bank) (drop o.units bank), ap length parts)

-- one run more is taken
pub more_taken : (ops : List Op) (bank : Text) (left left' drops rest drops' rest' : List Op) (o : Op) (used start : ℕ)
    → Taken ops bank left drops rest used → left ≡ left' ++ o ∷ [] → start ≡ used - inserted o.kind o.units → used ≤ length bank
    → made drops' rest' ≡ put_front o.kind o (take (used - start) (drop start bank)) (made drops rest)
    → Taken ops bank left' drops' rest' start
more_taken ops bank left left' drops rest drops' rest' o used start t e s room m =
    let n = inserted o.kind o.units in
    let sums : all_inserted left ≡ all_inserted left' + (n + 0) = ap all_inserted e ∙ all_inserted-append left' (o ∷ []) in
    let width : used - start ≡ n = omega (arith, t.used_is, sums, s) in
    let rest_of : drop n (drop start bank) ≡ drop used bank = drop-drop n start bank ∙ ap (λ (k : ℕ). drop k bank) (let k : start + n ≡ used = omega (arith, t.used_is, sums, s) in k) in
    record {
      taken = o ∷ t.taken;
      whole = t.whole ∙ ap (λ (l : List Op). l ++ t.taken) e ∙ append_assoc left' (o ∷ []) t.taken;
      used_is = omega (arith, t.used_is, sums, s);
      is = m ∙ ap₂ (λ (k : ℕ) (f : Front). put_front o.kind o (take k (drop start bank)) f) width (t.is ∙ ap (front_of t.taken) (sym rest_of));
    }

-- the walk is over
pub all_taken : (ops : List Op) (bank : Text) (drops rest : List Op) (used : ℕ) → Taken ops bank [] drops rest used → reverse (rest ++ drops) ≡ normal_of ops bank
all_taken ops bank drops rest used t =
    let f : made drops rest ≡ front_of ops bank = t.is ∙ ap₂ (λ (os : List Op) (k : ℕ). front_of os (drop k bank)) (sym t.whole) t.used_is in
    reverse-append rest drops ∙ ap (λ (f : Front). f.drops ++ f.rest) f
