-- Putting units one by one is putting their run.
use Rattle.std.proofs.Common.{◌≡◌, ℕ, zero, suc, ◌+◌, ◌<◌, ◌≤◌, Bool, true, false, cond, not, ◌&&◌, ◌||◌, ◌⊎◌, inl, inr, nat_lt, List, [], ◌∷◌, length, refl, sym, ap, ◌∙◌, arith}
use Rattle.std.proofs.lemmas.Bool.Decides.{nat_tests}
use Rattle.ep_attr.specs.AttrMap.{AttrMap, same_map}
use Rattle.ep_attr.proofs.SameMap.{same_map_itself}
use Rattle.ep_cs.specs.declared.op.Kind.{Kind}
use Rattle.ep_cs.specs.declared.op.Kind.TheVariants as kind
use Rattle.ep_cs.specs.declared.op.Op.{Op}
use Rattle.ep_cs.specs.Normal.{same_kind, joins, joined, is_bare, put, one}
use Rattle.ep_cs.specs.NormalRuns.{IsLined}

abbrev pub run : Kind → ℕ → ℕ → AttrMap → Op
run k n l m = record { kind = k; units = n; lines = l; attrs = m }

pub same_kind_itself : (k : Kind) → same_kind k k ≡ true
same_kind_itself kind.Keep = refl
same_kind_itself kind.Drop = refl
same_kind_itself kind.Insert = refl

both : (a b : Bool) → (a && b) ≡ true → (a ≡ true) × (b ≡ true)
both true b e = (refl, e)
both false b e = absurd cc

all3 : (a b c : Bool) → a ≡ true → b ≡ true → c ≡ true → (a && (b && c)) ≡ true
all3 a b c e f g = λ i. e i && (f i && g i)

pub not3 : (a b x y : Bool) → (y ≡ true → x ≡ true) → (a && (b && x)) ≡ false → (a && (b && y)) ≡ false
not3 true true true y h e = absurd cc
not3 true true false true h e = absurd (let r : false ≡ true = h refl in cc)
not3 true true false false h e = refl
not3 true false x y h e = refl
not3 false b x y h e = refl

-- the test of lines
abbrev pub lined : ℕ → ℕ → Bool
lined after before = nat_lt 0 after || not (nat_lt 0 before)

pub lined_is : (q l : ℕ) → lined q l ≡ true → (0 < q) ⊎ (l ≡ 0)
lined_is q zero e = inr refl
lined_is zero (suc l) e = absurd (go (nat_lt 0 (suc l)) (grind (arith, nat_tests)) e)
  where
    go : (b : Bool) → b ≡ true → not b ≡ true → ⊥
    go true e f = cc
    go false e f = cc
lined_is (suc q) (suc l) e = inl (omega arith)

pub lined_first : (q l : ℕ) → 0 < q → lined q l ≡ true
lined_first q l h = let t : nat_lt 0 q ≡ true = grind (arith, nat_tests) in ap (λ b. b || not (nat_lt 0 l)) t

pub lined_none : (q : ℕ) → lined q 0 ≡ true
lined_none q = elim (nat_lt 0 q) as (λ b. (b || true) ≡ true) [ true ↦ refl | false ↦ refl ]

joins_itself : (k : Kind) (u a n l : ℕ) (m : AttrMap) → lined l a ≡ true → joins (run k u a m) (run k n l m) ≡ true
joins_itself k u a n l m h = all3 _ _ _ (same_kind_itself k) (same_map_itself m) h

-- a run before a run of the same kind is one run, where the first has no newline or the second has one
pub put-put : (k : Kind) (m : AttrMap) (u a n l : ℕ) (os : List Op) → (a ≡ 0) ⊎ (1 ≤ l) → put (run k u a m) (put (run k n l m) os) ≡ put (run k (u + n) (a + l) m) os
put-put k m u a n l os h = go os
  where
    fits : lined l a ≡ true
    fits = elim h as (λ _. lined l a ≡ true) [ inl z ↦ ap (lined l) z ∙ lined_none l | inr p ↦ lined_first l a p ]

    ended : (b : Bool) → is_bare (run k u a m) ≡ b → put (run k u a m) (cond b [] (run k n l m ∷ [])) ≡ cond b [] (run k (u + n) (a + l) m ∷ [])
    ended true e = ap (λ c. cond c [] (run k u a m ∷ [])) e
    ended false e = ap (λ c. cond c (joined (run k u a m) (run k n l m) ∷ []) (run k u a m ∷ (run k n l m ∷ []))) (joins_itself k u a n l m fits)

    before : (p : Op) (ps : List Op) (b : Bool) → joins (run k n l m) p ≡ b
        → put (run k u a m) (cond b (joined (run k n l m) p ∷ ps) (run k n l m ∷ (p ∷ ps))) ≡ cond (joins (run k (u + n) (a + l) m) p) (joined (run k (u + n) (a + l) m) p ∷ ps) (run k (u + n) (a + l) m ∷ (p ∷ ps))
    before p ps true e =
        let x = both (same_kind k p.kind) _ e in
        let y = both (same_map m p.attrs) _ x.1 in
        let z : (0 < p.lines) ⊎ (l ≡ 0) = lined_is p.lines l y.1 in
        let first : lined (l + p.lines) a ≡ true = elim z as (λ _. lined (l + p.lines) a ≡ true) [
          | inl q ↦ lined_first (l + p.lines) a (omega arith)
          | inr q ↦ elim h as (λ _. lined (l + p.lines) a ≡ true) [ inl w ↦ ap (lined (l + p.lines)) w ∙ lined_none (l + p.lines) | inr w ↦ absurd (omega arith) ]
        ] in
        let second : lined p.lines (a + l) ≡ true = elim z as (λ _. lined p.lines (a + l) ≡ true) [
          | inl q ↦ lined_first p.lines (a + l) q
          | inr q ↦ elim h as (λ _. lined p.lines (a + l) ≡ true) [ inl w ↦ ap (lined p.lines) (let s : a + l ≡ 0 = omega arith in s) ∙ lined_none p.lines | inr w ↦ absurd (omega arith) ]
        ] in
        let eu : u + (n + p.units) ≡ u + n + p.units = omega arith in
        let el : a + (l + p.lines) ≡ a + l + p.lines = omega arith in
        ap (λ c. cond c (joined (run k u a m) (joined (run k n l m) p) ∷ ps) (run k u a m ∷ (joined (run k n l m) p ∷ ps))) (all3 _ _ _ x.0 y.0 first)
        ∙ (λ i. run p.kind (eu i) (el i) p.attrs ∷ ps)
        ∙ sym (ap (λ c. cond c (joined (run k (u + n) (a + l) m) p ∷ ps) (run k (u + n) (a + l) m ∷ (p ∷ ps))) (all3 _ _ _ x.0 y.0 second))
    before p ps false e =
        let other : joins (run k (u + n) (a + l) m) p ≡ false = not3 (same_kind k p.kind) (same_map m p.attrs) (lined p.lines l) (lined p.lines (a + l)) (λ t. less (lined_is p.lines (a + l) t)) e in
        ap (λ c. cond c (joined (run k u a m) (run k n l m) ∷ (p ∷ ps)) (run k u a m ∷ (run k n l m ∷ (p ∷ ps)))) (joins_itself k u a n l m fits)
        ∙ sym (ap (λ c. cond c (joined (run k (u + n) (a + l) m) p ∷ ps) (run k (u + n) (a + l) m ∷ (p ∷ ps))) other)
      where
        less : (0 < p.lines) ⊎ (a + l ≡ 0) → lined p.lines l ≡ true
        less (inl q) = lined_first p.lines l q
        less (inr q) = ap (lined p.lines) (let s : l ≡ 0 = omega arith in s) ∙ lined_none p.lines

    go : (os : List Op) → put (run k u a m) (put (run k n l m) os) ≡ put (run k (u + n) (a + l) m) os
    go [] = ended (is_bare (run k u a m)) refl
    go (p ∷ ps) = before p ps (joins (run k n l m) p) refl

-- units with their newlines are their run
abbrev pub put_units : Kind → AttrMap → List ℕ → List Op → List Op
put_units k m [] os = os
put_units k m (mark ∷ marks) os = put (one k m mark) (put_units k m marks os)

pub put_units-run : (k : Kind) (m : AttrMap) (lines : ℕ) (marks : List ℕ) (os : List Op) → IsLined lines marks → put_units k m marks os ≡ put (run k (length marks) lines m) os
put_units-run k m lines [] os h = absurd h
put_units-run k m lines (x ∷ []) os h = ap (λ (l : ℕ). put (run k 1 l m) os) (sym h)
put_units-run k m lines (x ∷ (y ∷ ms)) os h =
    let e : 1 + suc (length ms) ≡ suc (suc (length ms)) = omega arith in
    ap (put (one k m x)) (put_units-run k m h.0 (y ∷ ms) os h.3) ∙ put-put k m 1 x (suc (length ms)) h.0 os h.2
    ∙ (λ i. put (run k (e i) (sym h.1 i) m) os)
