-- Runs of which a part of the first is left out.
use Rattle.std.proofs.Common.{◌≡◌, ℕ, zero, suc, ◌+◌, ◌-◌, ◌<◌, ◌≤◌, true, false, cond, nat_lt, inl, inr, List, [], ◌∷◌, ◌++◌, map, length, take, drop, replicate, refl, sym, ap, ap₂, ◌∙◌, subst, arith, append_assoc, drop-drop, length-drop, take-append-drop, take-take}
use Rattle.std.proofs.lemmas.Bool.Decides.{nat_tests}
use Rattle.std.proofs.lemmas.List.{drop-take, replicate-append-replicate}
use Rattle.ep_units.specs.Text.{Text, is_newline}
use Rattle.ep_attr.specs.AttrMap.{AttrMap, none}
use Rattle.ep_cs.specs.Edit.{Fate, Step, inserts}
use Rattle.ep_cs.specs.Edit.Fate.{Drop, Keep}
use Rattle.ep_cs.specs.Edit.Step.{Insert, Pass}
use Rattle.ep_cs.specs.Change.{newlines}
use Rattle.ep_cs.specs.NormalRuns.{IsLined}
use Rattle.ep_cs.specs.Runs.{cells, inserted, passed, run_steps, op_steps, steps_of, rest_kept}
use Rattle.ep_cs.specs.declared.op.Kind.{Kind}
use Rattle.ep_cs.specs.declared.op.Kind.TheVariants as kind
use Rattle.ep_cs.specs.declared.op.Op.{Op}
use Rattle.ep_cursor.specs.Left.{without, cut}
use Rattle.ep_cursor.specs.Said.{source, IsSaid, AreSaid, IsRest}
use Rattle.ep_cursor.proofs.Lined.{less_or_same}

cut_part : (k l : ℕ) (o : Op) (os : List Op) → k < o.units → cut k l (o ∷ os) ≡ without k l o ∷ os
cut_part k l o os h = let t : nat_lt k o.units ≡ true = grind (arith, nat_tests) in ap (λ b. cond b (without k l o ∷ os) os) t

cut_whole : (k l : ℕ) (o : Op) (os : List Op) → k ≡ o.units → cut k l (o ∷ os) ≡ os
cut_whole k l o os h = let t : nat_lt k o.units ≡ false = grind (arith, nat_tests) in ap (λ b. cond b (without k l o ∷ os) os) t

-- n equal steps as the first k and the rest
pub times_parts : (k n : ℕ) (f : Fate) → k ≤ n → replicate n (Pass f) ≡ replicate k (Pass f) ++ replicate (n - k) (Pass f)
times_parts k n f h = let e : n ≡ k + (n - k) = omega (arith, h) in ap (λ (j : ℕ). replicate j (Pass f)) e ∙ sym (replicate-append-replicate k (n - k) (Pass f))

inserts-append : (m : AttrMap) (a b : Text) → inserts (cells m (a ++ b)) ≡ inserts (cells m a) ++ inserts (cells m b)
inserts-append m [] b = refl
inserts-append m (u ∷ a) b = ap (λ s. Insert (record { unit = u; attrs = m }) ∷ s) (inserts-append m a b)

take_parts : (k n : ℕ) (us : Text) → k ≤ n → take n us ≡ take k us ++ take (n - k) (drop k us)
take_parts k n us h =
    let e : n ≡ k + (n - k) = omega (arith, h) in
    sym (take-append-drop k (take n us))
    ∙ ap₂ (λ (a b : Text). a ++ b) (take-take k n us h) (ap (λ (j : ℕ). drop k (take j us)) e ∙ drop-take k (n - k) us)

insert_parts : (k n : ℕ) (m : AttrMap) (bank : Text) → k ≤ n → inserts (cells m (take n bank)) ≡ inserts (cells m (take k bank)) ++ inserts (cells m (take (n - k) (drop k bank)))
insert_parts k n m bank h = ap (λ us. inserts (cells m us)) (take_parts k n bank h) ∙ inserts-append m (take k bank) (take (n - k) (drop k bank))

run_parts : (kd : Kind) (k n : ℕ) (m : AttrMap) (bank : Text) → k ≤ n
    → run_steps kd n m (take (inserted kd n) bank) ≡ run_steps kd k m (take (inserted kd k) bank) ++ run_steps kd (n - k) m (take (inserted kd (n - k)) (drop (inserted kd k) bank))
run_parts kind.Keep k n m bank h = times_parts k n (Keep m) h
run_parts kind.Drop k n m bank h = times_parts k n Drop h
run_parts kind.Insert k n m bank h = insert_parts k n m bank h

drop_parts : (kd : Kind) (k n : ℕ) (us : Text) → k ≤ n → drop (inserted kd (n - k)) (drop (inserted kd k) us) ≡ drop (inserted kd n) us
drop_parts kind.Keep k n us h = refl
drop_parts kind.Drop k n us h = refl
drop_parts kind.Insert k n us h = drop-drop (n - k) k us ∙ ap (λ (j : ℕ). drop j us) (let e : k + (n - k) ≡ n = omega (arith, h) in e)

pass_parts : (kd : Kind) (k n : ℕ) (us : Text) → k ≤ n → drop (passed kd (n - k)) (drop (passed kd k) us) ≡ drop (passed kd n) us
pass_parts kind.Keep k n us h = drop-drop (n - k) k us ∙ ap (λ (j : ℕ). drop j us) (let e : k + (n - k) ≡ n = omega (arith, h) in e)
pass_parts kind.Drop k n us h = drop-drop (n - k) k us ∙ ap (λ (j : ℕ). drop j us) (let e : k + (n - k) ≡ n = omega (arith, h) in e)
pass_parts kind.Insert k n us h = refl

-- the steps of what is left behind a part of the first run
pub cut_steps : (o : Op) (os : List Op) (bank : Text) (r k l : ℕ) → k ≤ o.units
    → steps_of (o ∷ os) bank ++ rest_kept r ≡ run_steps o.kind k o.attrs (take (inserted o.kind k) bank) ++ (steps_of (cut k l (o ∷ os)) (drop (inserted o.kind k) bank) ++ rest_kept r)
cut_steps o os bank r k l h = elim (less_or_same k o.units h) as (λ _. steps_of (o ∷ os) bank ++ rest_kept r ≡ run_steps o.kind k o.attrs (take (inserted o.kind k) bank) ++ (steps_of (cut k l (o ∷ os)) (drop (inserted o.kind k) bank) ++ rest_kept r)) [ inl g ↦ part g | inr e ↦ all e ]
  where
    front : List Step
    front = run_steps o.kind k o.attrs (take (inserted o.kind k) bank)

    part : k < o.units → steps_of (o ∷ os) bank ++ rest_kept r ≡ front ++ (steps_of (cut k l (o ∷ os)) (drop (inserted o.kind k) bank) ++ rest_kept r)
    part g =
        let later = run_steps o.kind (o.units - k) o.attrs (take (inserted o.kind (o.units - k)) (drop (inserted o.kind k) bank)) in
        ap₂ (λ (a b : List Step). (a ++ b) ++ rest_kept r) (run_parts o.kind k o.units o.attrs bank h) (ap (steps_of os) (sym (drop_parts o.kind k o.units bank h)))
        ∙ append_assoc (front ++ later) (steps_of os (drop (inserted o.kind (o.units - k)) (drop (inserted o.kind k) bank))) (rest_kept r)
        ∙ append_assoc front later (steps_of os (drop (inserted o.kind (o.units - k)) (drop (inserted o.kind k) bank)) ++ rest_kept r)
        ∙ ap (λ s. front ++ s) (sym (append_assoc later (steps_of os (drop (inserted o.kind (o.units - k)) (drop (inserted o.kind k) bank))) (rest_kept r)))
        ∙ ap (λ ops. front ++ (steps_of ops (drop (inserted o.kind k) bank) ++ rest_kept r)) (sym (cut_part k l o os g))

    all : k ≡ o.units → steps_of (o ∷ os) bank ++ rest_kept r ≡ front ++ (steps_of (cut k l (o ∷ os)) (drop (inserted o.kind k) bank) ++ rest_kept r)
    all e =
        append_assoc (op_steps o (take (inserted o.kind o.units) bank)) (steps_of os (drop (inserted o.kind o.units) bank)) (rest_kept r)
        ∙ ap (λ (n : ℕ). run_steps o.kind n o.attrs (take (inserted o.kind n) bank) ++ (steps_of os (drop (inserted o.kind n) bank) ++ rest_kept r)) (sym e)
        ∙ ap (λ ops. front ++ (steps_of ops (drop (inserted o.kind k) bank) ++ rest_kept r)) (sym (cut_whole k l o os e))

pub newlines_drop : (n : ℕ) (us : Text) → drop n (newlines us) ≡ newlines (drop n us)
newlines_drop zero us = refl
newlines_drop (suc n) [] = refl
newlines_drop (suc n) (u ∷ us) = newlines_drop n us

pub newlines_take : (n : ℕ) (us : Text) → take n (newlines us) ≡ newlines (take n us)
newlines_take zero us = refl
newlines_take (suc n) [] = refl
newlines_take (suc n) (u ∷ us) = ap (λ ks. cond (is_newline u) 1 0 ∷ ks) (newlines_take n us)

source_behind : (kd : Kind) (k : ℕ) (bank us : Text) → source kd (drop (inserted kd k) bank) (drop (passed kd k) us) ≡ drop k (source kd bank us)
source_behind kind.Keep k bank us = refl
source_behind kind.Drop k bank us = refl
source_behind kind.Insert k bank us = refl

said_part : (k n l lines : ℕ) (us : Text) → k < n → IsSaid n lines us → IsLined (lines - l) (drop k (newlines (take n us))) → IsSaid (n - k) (lines - l) (drop k us)
said_part k n l lines us h is rest =
    let e : k + (n - k) ≡ n = omega (arith, h) in
    let same : drop k (newlines (take n us)) ≡ newlines (take (n - k) (drop k us)) = newlines_drop k (take n us) ∙ ap (λ (j : ℕ). newlines (drop k (take j us))) (sym e) ∙ ap newlines (drop-take k (n - k) us) in
    (omega (arith, is.0, length-drop k us), subst (IsLined (lines - l)) same rest)

-- what runs say is true behind a part of the first
pub said_cut : (o : Op) (os : List Op) (bank us : Text) (k l : ℕ) → AreSaid (o ∷ os) bank us → k ≤ o.units
    → (k < o.units → IsRest o bank us k l)
    → AreSaid (cut k l (o ∷ os)) (drop (inserted o.kind k) bank) (drop (passed o.kind k) us)
said_cut o os bank us k l said h rest = elim (less_or_same k o.units h) as (λ _. AreSaid (cut k l (o ∷ os)) (drop (inserted o.kind k) bank) (drop (passed o.kind k) us)) [ inl g ↦ part g | inr e ↦ all e ]
  where
    part : k < o.units → AreSaid (cut k l (o ∷ os)) (drop (inserted o.kind k) bank) (drop (passed o.kind k) us)
    part g =
        subst (λ ops. AreSaid ops (drop (inserted o.kind k) bank) (drop (passed o.kind k) us)) (sym (cut_part k l o os g)) (
          subst (IsSaid (o.units - k) (o.lines - l)) (sym (source_behind o.kind k bank us)) (said_part k o.units l o.lines (source o.kind bank us) g said.0 (rest g)),
          subst (λ (x : Text × Text). AreSaid os x.0 x.1) (λ i. (sym (drop_parts o.kind k o.units bank h) i, sym (pass_parts o.kind k o.units us h) i)) said.1,
        )

    all : k ≡ o.units → AreSaid (cut k l (o ∷ os)) (drop (inserted o.kind k) bank) (drop (passed o.kind k) us)
    all e =
        subst (λ ops. AreSaid ops (drop (inserted o.kind k) bank) (drop (passed o.kind k) us)) (sym (cut_whole k l o os e))
        (subst (λ (n : ℕ). AreSaid os (drop (inserted o.kind n) bank) (drop (passed o.kind n) us)) (sym e) said.1)
