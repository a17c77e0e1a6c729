-- The map of a map's numbers is that map.
use Rattle.std.proofs.Common.{◌≡◌, ℕ, suc, Bool, true, false, cond, List, [], ◌∷◌, ◌++◌, length, Option, Some, None, refl, sym, ap, ap₂, ◌∙◌, ◌⊎◌, inl, inr, append_assoc}
use Rattle.std.specs.Ordering.{eq_by_cmp}
use Rattle.ep_units.specs.Text.{Text, text_cmp}
use Rattle.ep_attr.specs.AttrMap.{AttrMap, Pair, none, get, insert, is_value}
use Rattle.ep_attr.proofs.Maps.{get-insert, same_values, exact_test}
use Rattle.ep_attr.proofs.SameMap.{itself}
use Rattle.ep_cs.proofs.Pairs.{same_text}
use Rattle.ep_cs.specs.declared.op.Kind.{Kind}
use Rattle.ep_cs.specs.declared.op.Op.{Op}
use Rattle.ep_csread.specs.Spelling.{Numbered, numbers_from, numbers_in}
use Rattle.ep_csread.specs.Reading.{pair_at, with_pair, map_from, map_for, resolved}

abbrev pub Has : List Pair → Text → Text → Type 0
Has [] k v = ⊥
Has (p ∷ ps) k v = ((p.0 ≡ k) × (p.1 ≡ v)) ⊎ Has ps k v

-- the pool has each pair of the map
pub record HasMap (pool : List Pair) (m : AttrMap) : Type 0 where
  pub has : (k v : Text) → get m k ≡ Some v → Has pool k v

-- an operation with the numbers of its attributes
abbrev pub numbered : List Pair → Op → Numbered
numbered pool o = record { stars = numbers_in pool o.attrs; lines = o.lines; kind = o.kind; units = o.units }

abbrev next : AttrMap → AttrMap → Pair → AttrMap
next m acc p = cond (is_value p.1 (get m p.0)) (insert acc p.0 p.1) acc

abbrev gathered : AttrMap → AttrMap → List Pair → AttrMap
gathered m acc [] = acc
gathered m acc (p ∷ ps) = gathered m (cond (is_value p.1 (get m p.0)) (insert acc p.0 p.1) acc) ps

pair_at-append : (front : List Pair) (p : Pair) (ps : List Pair) → pair_at (front ++ p ∷ ps) (length front) ≡ Some p
pair_at-append [] p ps = refl
pair_at-append (q ∷ front) p ps = pair_at-append front p ps

numbers-gathered : (m acc : AttrMap) (front ps pool : List Pair) (i : ℕ) → front ++ ps ≡ pool → length front ≡ i → map_from pool acc (numbers_from i ps m) ≡ gathered m acc ps
numbers-gathered m acc front [] pool i e l = refl
numbers-gathered m acc front (p ∷ ps) pool i e l = go (is_value p.1 (get m p.0)) (λ a. numbers-gathered m a (front ++ p ∷ []) ps pool (suc i) (append_assoc front (p ∷ []) ps ∙ e) (length_more front p ∙ ap suc l))
  where
    length_more : (front : List Pair) (p : Pair) → length (front ++ p ∷ []) ≡ suc (length front)
    length_more [] p = refl
    length_more (q ∷ front) p = ap suc (length_more front p)

    there : pair_at pool i ≡ Some p
    there = sym (ap₂ (λ (ps : List Pair) (n : ℕ). pair_at ps n) e l) ∙ pair_at-append front p ps

    go : (b : Bool) → ((a : AttrMap) → map_from pool a (numbers_from (suc i) ps m) ≡ gathered m a ps) → map_from pool acc (cond b (i ∷ numbers_from (suc i) ps m) (numbers_from (suc i) ps m)) ≡ gathered m (cond b (insert acc p.0 p.1) acc) ps
    go true again = ap (λ o. map_from pool (with_pair o acc) (numbers_from (suc i) ps m)) there ∙ again (insert acc p.0 p.1)
    go false again = again acc

is_pair : (p : Pair) (o : Option Text) → is_value p.1 o ≡ true → o ≡ Some p.1
is_pair p None e = absurd cc
is_pair p (Some v) e = ap (λ w. Some w) (sym (same_text p.1 v e))

-- values that are there are those of m
record IsPart (acc m : AttrMap) : Type 0 where
  part : (q : Text) → (get acc q ≡ None) ⊎ (get acc q ≡ get m q)

at_insert : (m acc : AttrMap) (p : Pair) (q : Text) → get m p.0 ≡ Some p.1 → (get (insert acc p.0 p.1) q ≡ get m q) ⊎ (get (insert acc p.0 p.1) q ≡ get acc q)
at_insert m acc p q e = go (eq_by_cmp text_cmp q p.0) refl
  where
    go : (b : Bool) → eq_by_cmp text_cmp q p.0 ≡ b → (get (insert acc p.0 p.1) q ≡ get m q) ⊎ (get (insert acc p.0 p.1) q ≡ get acc q)
    go true t = inl (get-insert acc p.0 p.1 q ∙ ap (λ b. cond b (Some p.1) (get acc q)) t ∙ sym e ∙ ap (get m) (sym (exact_test q p.0 t)))
    go false t = inr (get-insert acc p.0 p.1 q ∙ ap (λ b. cond b (Some p.1) (get acc q)) t)

next_part : (m acc : AttrMap) (p : Pair) → IsPart acc m → IsPart (cond (is_value p.1 (get m p.0)) (insert acc p.0 p.1) acc) m
next_part m acc p h = go (is_value p.1 (get m p.0)) refl
  where
    go : (b : Bool) → is_value p.1 (get m p.0) ≡ b → IsPart (cond b (insert acc p.0 p.1) acc) m
    go false e = h
    go true e = record {
      part = λ q. elim (at_insert m acc p q (is_pair p _ e)) as (λ _. (get (insert acc p.0 p.1) q ≡ None) ⊎ (get (insert acc p.0 p.1) q ≡ get m q)) [
        | inl x ↦ inr x
        | inr x ↦ elim (h.part q) as (λ _. (get (insert acc p.0 p.1) q ≡ None) ⊎ (get (insert acc p.0 p.1) q ≡ get m q)) [ inl y ↦ inl (x ∙ y) | inr y ↦ inr (x ∙ y) ]
      ];
    }

all_part : (m acc : AttrMap) (ps : List Pair) → IsPart acc m → IsPart (gathered m acc ps) m
all_part m acc [] h = h
all_part m acc (p ∷ ps) h = all_part m (next m acc p) ps (next_part m acc p h)

-- what is there stays
next_stays : (m acc : AttrMap) (p : Pair) (q : Text) → get acc q ≡ get m q → get (cond (is_value p.1 (get m p.0)) (insert acc p.0 p.1) acc) q ≡ get m q
next_stays m acc p q h = go (is_value p.1 (get m p.0)) refl
  where
    go : (b : Bool) → is_value p.1 (get m p.0) ≡ b → get (cond b (insert acc p.0 p.1) acc) q ≡ get m q
    go false e = h
    go true e = elim (at_insert m acc p q (is_pair p _ e)) as (λ _. get (insert acc p.0 p.1) q ≡ get m q) [ inl x ↦ x | inr x ↦ x ∙ h ]

stays : (m acc : AttrMap) (ps : List Pair) (q : Text) → get acc q ≡ get m q → get (gathered m acc ps) q ≡ get m q
stays m acc [] q h = h
stays m acc (p ∷ ps) q h = stays m (next m acc p) ps q (next_stays m acc p q h)

eq_itself : (t : Text) → eq_by_cmp text_cmp t t ≡ true
eq_itself t = itself t

comes : (m acc : AttrMap) (ps : List Pair) (q v : Text) → get m q ≡ Some v → Has ps q v → get (gathered m acc ps) q ≡ get m q
comes m acc [] q v e h = absurd h
comes m acc (p ∷ ps) q v e (inr h) = comes m (next m acc p) ps q v e h
comes m acc (p ∷ ps) q v e (inl h) = stays m (next m acc p) ps q here
  where
    o : get m p.0 ≡ Some p.1
    o = ap (get m) h.0 ∙ e ∙ ap (λ w. Some w) (sym h.1)

    test : is_value p.1 (get m p.0) ≡ true
    test = ap (is_value p.1) o ∙ itself p.1

    here : get (cond (is_value p.1 (get m p.0)) (insert acc p.0 p.1) acc) q ≡ get m q
    here = ap (λ b. get (cond b (insert acc p.0 p.1) acc) q) test ∙ get-insert acc p.0 p.1 q ∙ ap (λ t. cond (eq_by_cmp text_cmp q t) (Some p.1) (get acc q)) h.0 ∙ ap (λ b. cond b (Some p.1) (get acc q)) (eq_itself q) ∙ ap (λ w. Some w) h.1 ∙ sym e

pub map_again : (pool : List Pair) (m : AttrMap) → HasMap pool m → map_from pool none (numbers_in pool m) ≡ m
map_again pool m h =
    numbers-gathered m none [] pool pool 0 refl refl ∙ same_values (gathered m none pool) m (λ q. go q (get m q) refl)
  where
    part : IsPart (gathered m none pool) m
    part = all_part m none pool (record { part = λ q. inl refl })

    go : (q : Text) (o : Option Text) → get m q ≡ o → get (gathered m none pool) q ≡ get m q
    go q (Some v) e = comes m none pool q v e (h.has q v e)
    go q None e = elim (part.part q) as (λ _. get (gathered m none pool) q ≡ get m q) [ inl x ↦ x ∙ sym e | inr x ↦ x ]

-- a run in normal form is read again
abbrev pub HasFitMap : Kind → AttrMap → Type 0
HasFitMap k m = map_for k m ≡ m

pub resolved_again : (pool : List Pair) (o : Op) → HasMap pool o.attrs → HasFitMap o.kind o.attrs → resolved pool (numbered pool o) ≡ o
resolved_again pool o h fit = λ i. record { kind = o.kind; units = o.units; lines = o.lines; attrs = (ap (map_for o.kind) (map_again pool o.attrs h) ∙ fit) i }
