-- Changes of as many units with the same operations and the same inserted units are one.
use Rattle.std.proofs.Common.{◌≡◌, ℕ, true, ◌==◌, List, [], ◌∷◌, length, refl, sym, ap, ◌∙◌, subst, T, arith}
use Rattle.std.proofs.lemmas.Bool.Decides.{nat_tests}
use Rattle.ep_attr.proofs.SameMap.{both_true, first_true, second_true, exact_map, same_map_itself}
use Rattle.ep_cs.specs.Change.{Change, bank_of, change_of}
use Rattle.ep_cs.specs.Normal.{same_kind}
use Rattle.ep_cs.specs.NormalRuns.{IsNormal}
use Rattle.ep_cs.specs.declared.op.Kind.{Kind}
use Rattle.ep_cs.specs.declared.op.Kind.TheVariants as kind
use Rattle.ep_cs.specs.declared.op.Op.{Op}
use Rattle.ep_replay.specs.Same.{same_op, same_ops}

same_kind-true : (j k : Kind) → same_kind j k ≡ true → j ≡ k
same_kind-true kind.Keep kind.Keep e = refl
same_kind-true kind.Keep kind.Drop e = absurd (subst T (sym e) tt)
same_kind-true kind.Keep kind.Insert e = absurd (subst T (sym e) tt)
same_kind-true kind.Drop kind.Keep e = absurd (subst T (sym e) tt)
same_kind-true kind.Drop kind.Drop e = refl
same_kind-true kind.Drop kind.Insert e = absurd (subst T (sym e) tt)
same_kind-true kind.Insert kind.Keep e = absurd (subst T (sym e) tt)
same_kind-true kind.Insert kind.Drop e = absurd (subst T (sym e) tt)
same_kind-true kind.Insert kind.Insert e = refl

same_kind-itself : (k : Kind) → same_kind k k ≡ true
same_kind-itself kind.Keep = refl
same_kind-itself kind.Drop = refl
same_kind-itself kind.Insert = refl

pub same_number : (m n : ℕ) → (m == n) ≡ true → m ≡ n
same_number m n e = grind (arith, nat_tests)

number_itself : (n : ℕ) → (n == n) ≡ true
number_itself n = grind (arith, nat_tests)

same_op-true : (o p : Op) → same_op o p ≡ true → o ≡ p
same_op-true o p e =
    let k = first_true (same_kind o.kind p.kind) _ e in
    let r = second_true (same_kind o.kind p.kind) _ e in
    let u = first_true (o.units == p.units) _ r in
    let s = second_true (o.units == p.units) _ r in
    let l = first_true (o.lines == p.lines) _ s in
    let m = second_true (o.lines == p.lines) _ s in
    λ i. record {
      kind = same_kind-true o.kind p.kind k i;
      units = same_number o.units p.units u i;
      lines = same_number o.lines p.lines l i;
      attrs = exact_map o.attrs p.attrs m i;
    }

same_op-itself : (o : Op) → same_op o o ≡ true
same_op-itself o = both_true _ _ (same_kind-itself o.kind) (both_true _ _ (number_itself o.units) (both_true _ _ (number_itself o.lines) (same_map_itself o.attrs)))

pub same_ops_true : (os ps : List Op) → same_ops os ps ≡ true → os ≡ ps
same_ops_true [] [] e = refl
same_ops_true [] (p ∷ ps) e = absurd (subst T (sym e) tt)
same_ops_true (o ∷ os) [] e = absurd (subst T (sym e) tt)
same_ops_true (o ∷ os) (p ∷ ps) e =
    let one = same_op-true o p (first_true (same_op o p) _ e) in
    let rest = same_ops_true os ps (second_true (same_op o p) _ e) in
    λ i. one i ∷ rest i

pub same_ops_itself : (os : List Op) → same_ops os os ≡ true
same_ops_itself [] = refl
same_ops_itself (o ∷ os) = both_true _ _ (same_op-itself o) (same_ops_itself os)

pub same_ops_told : (os ps : List Op) → os ≡ ps → same_ops os ps ≡ true
same_ops_told os ps e = ap (λ qs. same_ops os qs) (sym e) ∙ same_ops_itself os

pub one_change : (a b : Change) → IsNormal a → IsNormal b → length a.edit.places ≡ length b.edit.places → a.runs ≡ b.runs → bank_of a.edit ≡ bank_of b.edit → a ≡ b
one_change a b m n l r k = m.is ∙ (λ i. change_of (l i) (r i) (k i)) ∙ sym n.is
