-- There is room for each run that is taken.
use Rattle.std.proofs.Common.{◌≡◌, ℕ, zero, suc, ◌+◌, ◌-◌, ◌<◌, ◌≤◌, ◌^◌, true, false, cond, not, ◌&&◌, ◌||◌, nat_lt, List, [], ◌∷◌, ◌++◌, length, take, drop, sym, ap, ◌∙◌, subst, arith, append_assoc, drop-drop, length-append, length-drop, take-append-drop, reverse}
use Rattle.ep_units.specs.Text.{Text, is_newline}
use Rattle.ep_cs.specs.Doc.{Cell}
use Rattle.ep_attr.specs.AttrMap.{AttrMap, same_map}
use Rattle.ep_cs.specs.declared.op.Kind.{Kind}
use Rattle.ep_cs.specs.declared.op.Kind.TheVariants as kind
use Rattle.ep_cs.specs.declared.op.Op.{Op}
use Rattle.ep_cs.specs.Runs.{cells, inserted, passed, all_inserted, all_passed}
use Rattle.ep_cs.specs.Normal.{joins, joined, is_bare, put, put_cells, one, same_kind}
use Rattle.ep_cs.specs.NormalRuns.{IsRun, AreNormal}
use Rattle.ep_cs.specs.Written.{Front, front_of, put_front, normal_of, IsWritten, AreWritten}
use Rattle.ep_cs.proofs.Put.{run}
use Rattle.ep_cs.proofs.SameEdit.{same_edit}
use Rattle.ep_cs.proofs.Finished.{is_normal}
use Rattle.ep_cs.specs.Room.{HasRoom, AreCounted}
use Rattle.ep_cs.specs.Taken.{made, IsRoomy, Taken}
use Rattle.ep_cs.specs.NormalRuns.{AreLined}
use Rattle.ep_cs.proofs.Taking.{all_inserted-append, all_passed-append, begins, written_rest}

room_for : (o : Op) (os : List Op) → o.lines ≤ o.units → passed o.kind o.units + all_passed os < 2 ^ 32 → inserted o.kind o.units + all_inserted os < 2 ^ 32 → AreLined os → HasRoom o os
room_for o [] h p i l = tt
room_for o (q ∷ qs) h p i l = go o.kind q.kind p i
  where
    go : (k j : Kind) → passed k o.units + (passed j q.units + all_passed qs) < 2 ^ 32 → inserted k o.units + (inserted j q.units + all_inserted qs) < 2 ^ 32
        → (same_kind k j && (same_map o.attrs q.attrs && (nat_lt 0 q.lines || not (nat_lt 0 o.lines)))) ≡ true → AreCounted o q
    go kind.Keep kind.Keep p i e = record { units = omega arith; lines = omega (arith, l.0) }
    go kind.Drop kind.Drop p i e = record { units = omega arith; lines = omega (arith, l.0) }
    go kind.Insert kind.Insert p i e = record { units = omega arith; lines = omega (arith, l.0) }
    go kind.Keep kind.Drop p i e = absurd cc
    go kind.Keep kind.Insert p i e = absurd cc
    go kind.Drop kind.Keep p i e = absurd cc
    go kind.Drop kind.Insert p i e = absurd cc
    go kind.Insert kind.Keep p i e = absurd cc
    go kind.Insert kind.Drop p i e = absurd cc

pub lined_put : (o : Op) (os : List Op) → o.lines ≤ o.units → AreLined os → AreLined (put o os)
lined_put o [] h l = elim (is_bare o) as (λ b. AreLined (cond b [] (o ∷ []))) [ true ↦ tt | false ↦ (h, tt) ]
lined_put o (p ∷ ps) h l = elim (joins o p) as (λ b. AreLined (cond b (joined o p ∷ ps) (o ∷ (p ∷ ps)))) [ true ↦ (omega (arith, l.0), l.1) | false ↦ (h, l) ]

pub lined-append : (a b : List Op) → AreLined a → AreLined b → AreLined (a ++ b)
lined-append [] b h k = k
lined-append (o ∷ a) b h k = (h.0, lined-append a b h.1 k)

pub lined_cells : (cs : List Cell) (os : List Op) → AreLined os → AreLined (put_cells cs os)
lined_cells [] os h = h
lined_cells (c ∷ cs) os h = lined_put (one kind.Insert c.attrs (cond (is_newline c.unit) 1 0)) (put_cells cs os) (elim (is_newline c.unit) as (λ b. cond b 1 0 ≤ 1) [ true ↦ omega arith | false ↦ omega arith ]) (lined_cells cs os h)

pub record FrontLined (f : Front) : Type 0 where
  pub drops : AreLined f.drops
  pub rest : AreLined f.rest

pub lined_front : (ops : List Op) (bank : Text) → AreLined ops → FrontLined (front_of ops bank)
lined_front [] bank h = record { drops = tt; rest = tt }
lined_front (o ∷ os) bank h = go o.kind (lined_front os (drop (inserted o.kind o.units) bank) h.1)
  where
    go : (k : Kind) → FrontLined (front_of os (drop (inserted o.kind o.units) bank)) → FrontLined (put_front k o (take (inserted o.kind o.units) bank) (front_of os (drop (inserted o.kind o.units) bank)))
    go kind.Keep f = record { drops = tt; rest = lined_put o _ h.0 (lined-append _ _ f.drops f.rest) }
    go kind.Drop f = record { drops = lined_put o _ h.0 f.drops; rest = f.rest }
    go kind.Insert f = record { drops = f.drops; rest = lined_cells (cells o.attrs (take (inserted o.kind o.units) bank)) _ f.rest }

all_there : (os : List Op) (bank : Text) → AreNormal os bank → all_inserted os ≡ length bank
all_there [] bank h = sym (ap length h)
all_there (o ∷ os) bank h = go o.kind h.0 (λ b n. all_there os b n) h.2
  where
    go : (k : Kind) → IsRun k o.units o.lines o.attrs (take (inserted k o.units) bank) → ((b : Text) → AreNormal os b → all_inserted os ≡ length b) → AreNormal os (drop (inserted k o.units) bank) → inserted k o.units + all_inserted os ≡ length bank
    go kind.Keep is again n = omega (arith, again bank n)
    go kind.Drop is again n = omega (arith, again bank n)
    go kind.Insert is again n =
        let parts : take o.units bank ++ drop o.units bank ≡ bank = take-append-drop o.units bank in
        omega (arith, again (drop o.units bank) n, is.0, length-append (take o.units bank) (drop o.units bank), ap length parts)

length-take-small : (n : ℕ) (us : Text) → length (take n us) ≤ n
length-take-small zero us = omega arith
length-take-small (suc n) [] = omega arith
length-take-small (suc n) (u ∷ us) = omega (arith, length-take-small n us)

pub roomy : (o : Op) (os : List Op) (bank : Text) → AreWritten (o ∷ os) bank → AreLined (o ∷ os) → all_passed (o ∷ os) < 2 ^ 32 → all_inserted (o ∷ os) < 2 ^ 32
    → IsRoomy o.kind o (take (inserted o.kind o.units) bank) (front_of os (drop (inserted o.kind o.units) bank))
roomy o os bank written lined p i =
    let later = drop (inserted o.kind o.units) bank in
    let f = front_of os later in
    let fl = lined_front os later lined.1 in
    let e = same_edit os later 0 written.1 in
    let t = all_there (normal_of os later) later (is_normal os later written.1) in
    let b = begins os later written.1 in
    let pa = all_passed-append f.drops f.rest in
    let ia = all_inserted-append f.drops f.rest in
    go o.kind written.0 (omega (arith, e.all)) (omega (arith, t, b)) (omega (arith, pa, e.all)) (omega (arith, ia, t, b)) (omega (arith, ia, t, b)) (room_for o (f.drops ++ f.rest) lined.0 (omega (arith, e.all)) (omega (arith, t, b)) (lined-append f.drops f.rest fl.drops fl.rest)) (room_for o f.drops lined.0 (omega (arith, pa, e.all)) (omega (arith, ia, t, b)) fl.drops)
  where
    insert_room : length (take (inserted o.kind o.units) bank) ≡ o.units → all_inserted (front_of os (drop (inserted o.kind o.units) bank)).rest ≤ all_inserted os → length (take (inserted o.kind o.units) bank) + all_inserted (front_of os (drop (inserted o.kind o.units) bank)).rest < 2 ^ 32
    insert_room e h = omega (arith, i, length-take-small (inserted o.kind o.units) bank)

    go : (k : Kind) → IsWritten k o.units o.attrs (take (inserted o.kind o.units) bank)
        → all_passed (normal_of os (drop (inserted o.kind o.units) bank)) ≤ all_passed os
        → all_inserted (normal_of os (drop (inserted o.kind o.units) bank)) ≤ all_inserted os
        → all_passed (front_of os (drop (inserted o.kind o.units) bank)).drops ≤ all_passed os
        → all_inserted (front_of os (drop (inserted o.kind o.units) bank)).drops ≤ all_inserted os
        → all_inserted (front_of os (drop (inserted o.kind o.units) bank)).rest ≤ all_inserted os
        → HasRoom o (normal_of os (drop (inserted o.kind o.units) bank)) → HasRoom o (front_of os (drop (inserted o.kind o.units) bank)).drops
        → IsRoomy k o (take (inserted o.kind o.units) bank) (front_of os (drop (inserted o.kind o.units) bank))
    go kind.Keep is a b c d e both drops = both
    go kind.Drop is a b c d e both drops = drops
    go kind.Insert is a b c d e both drops = insert_room is.0 e

pub lined_rest : (a b : List Op) → AreLined (a ++ b) → AreLined b
lined_rest [] b h = h
lined_rest (o ∷ a) b h = lined_rest a b h.1

pub roomy_taken : (ops : List Op) (bank : Text) (left left' drops rest : List Op) (o : Op) (used start : ℕ)
    → Taken ops bank left drops rest used → left ≡ left' ++ o ∷ [] → start ≡ used - inserted o.kind o.units
    → AreWritten ops bank → AreLined ops → all_passed ops < 2 ^ 32 → length bank < 2 ^ 32
    → IsRoomy o.kind o (take (used - start) (drop start bank)) (made drops rest)
roomy_taken ops bank left left' drops rest o used start t e s written lined p small =
    let n = inserted o.kind o.units in
    let sums : all_inserted left ≡ all_inserted left' + (n + 0) = ap all_inserted e ∙ all_inserted-append left' (o ∷ []) in
    let width : used - start ≡ n = omega (arith, t.used_is, sums, s) in
    let rest_of : drop n (drop start bank) ≡ drop used bank = drop-drop n start bank ∙ ap (λ (k : ℕ). drop k bank) (let k : start + n ≡ used = omega (arith, t.used_is, sums, s) in k) in
    let whole : ops ≡ left' ++ (o ∷ t.taken) = t.whole ∙ ap (λ (l : List Op). l ++ t.taken) e ∙ append_assoc left' (o ∷ []) t.taken in
    let start_is : all_inserted left' ≡ start = omega (arith, t.used_is, sums, s) in
    let w : AreWritten (o ∷ t.taken) (drop start bank) = subst (λ (k : ℕ). AreWritten (o ∷ t.taken) (drop k bank)) start_is (written_rest left' (o ∷ t.taken) bank (subst (λ os. AreWritten os bank) whole written)) in
    let l : AreLined (o ∷ t.taken) = lined_rest left' (o ∷ t.taken) (subst AreLined whole lined) in
    let passed_all : all_passed ops ≡ all_passed left' + all_passed (o ∷ t.taken) = ap all_passed whole ∙ all_passed-append left' (o ∷ t.taken) in
    let inserted_all : all_inserted (o ∷ t.taken) ≡ length (drop start bank) = begins (o ∷ t.taken) (drop start bank) w in
    let r = roomy o t.taken (drop start bank) w l (omega (arith, passed_all)) (omega (arith, inserted_all, length-drop start bank)) in
    let front : front_of t.taken (drop n (drop start bank)) ≡ made drops rest = ap (front_of t.taken) rest_of ∙ sym t.is in
    subst (λ (x : ℕ × Front). IsRoomy o.kind o (take x.0 (drop start bank)) x.1) (λ i. (sym width i, front i)) r

pub enough_used : (left left' : List Op) (o : Op) (used k : ℕ) → used ≡ all_inserted left → left ≡ left' ++ o ∷ [] → k ≡ inserted o.kind o.units → k ≤ used
enough_used left left' o used k u e i = omega (arith, u, i, ap all_inserted e ∙ all_inserted-append left' (o ∷ []))

pub lined_taken : (ops : List Op) (bank : Text) (left drops rest : List Op) (used : ℕ) → Taken ops bank left drops rest used → AreLined ops → AreLined (reverse rest)
lined_taken ops bank left drops rest used t lined =
    subst (λ (f : Front). AreLined f.rest) (sym t.is) (lined_front t.taken (drop used bank) (lined_rest left t.taken (subst AreLined t.whole lined))).rest

pub lined_normal : (ops : List Op) (bank : Text) → AreLined ops → AreLined (normal_of ops bank)
lined_normal ops bank h = let f = lined_front ops bank h in lined-append (front_of ops bank).drops (front_of ops bank).rest f.drops f.rest

-- room for an insertion
pub room_inserting : (n l : ℕ) (m : AttrMap) (os : List Op) → l ≤ n → n + all_inserted os < 2 ^ 32 → AreLined os → HasRoom (run kind.Insert n l m) os
room_inserting n l m [] h i s = tt
room_inserting n l m (q ∷ qs) h i s = go q.kind i
  where
    go : (k : Kind) → n + (inserted k q.units + all_inserted qs) < 2 ^ 32 → (same_kind kind.Insert k && (same_map m q.attrs && (nat_lt 0 q.lines || not (nat_lt 0 l)))) ≡ true → AreCounted (run kind.Insert n l m) q
    go kind.Insert i e = record { units = omega arith; lines = omega (arith, s.0) }
    go kind.Keep i e = absurd cc
    go kind.Drop i e = absurd cc
