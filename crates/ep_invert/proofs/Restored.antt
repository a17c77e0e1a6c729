-- The map that gives a document's map back after a change's.
use Rattle.std.proofs.Common.{◌≡◌, Bool, true, false, cond, List, [], ◌∷◌, T, Option, Some, None, refl, sym, ap, ◌∙◌, subst}
use Rattle.std.specs.Prelude.{if◌then◌else◌}
use Rattle.std.specs.Ordering.{eq_by_cmp}
use Rattle.std.specs.FinMap.Entries.{find, is_sorted, below_all}
use Rattle.ep_units.specs.Text.{Text, text_cmp, text_eq}
use Rattle.ep_attr.specs.AttrMap.{Pair, AttrMap, none, get, insert, with_pairs, of_pairs, value_after, later_value, after}
use Rattle.ep_attr.specs.Merged.{given}
use Rattle.ep_attr.proofs.Keys.{first, second, find_below}
use Rattle.ep_attr.proofs.Maps.{exact_test, get-insert, get-pointwise, get-after, same_values}
use Rattle.ep_attr.proofs.SameMap.{itself}
use Rattle.ep_invert.specs.Inverse.{value_back, restoring}
use Rattle.ep_invert.specs.Restored.{pairs_back}

pub get-restoring : (m c : AttrMap) (q : Text) → get (restoring m c) q ≡ value_back (get m q) (get c q)
get-restoring m c q = get-pointwise value_back refl m c q

-- one pair more
step_back : (a m : AttrMap) (k w : Text) (rest : List Pair) (q : Text) (v x : Option Text) (b : Bool)
    → eq_by_cmp text_cmp q k ≡ b → value_back (get a k) (Some w) ≡ v → (b ≡ true → x ≡ None)
    → ((n : AttrMap) → get (with_pairs n rest) q ≡ later_value (get n q) (value_back (get a q) x))
    → get (with_pairs m (given k v rest)) q ≡ later_value (get m q) (value_back (get a q) (cond b (Some w) x))
step_back a m k w rest q None x true same is gone again =
    again m ∙ ap (λ y. later_value (get m q) (value_back (get a q) y)) (gone refl)
    ∙ sym (ap (later_value (get m q)) (ap (λ (j : Text). value_back (get a j) (Some w)) (exact_test q k same) ∙ is))
step_back a m k w rest q None x false same is gone again = again m
step_back a m k w rest q (Some v) x true same is gone again =
    again (insert m k v) ∙ ap (λ y. later_value (get (insert m k v) q) (value_back (get a q) y)) (gone refl)
    ∙ get-insert m k v q ∙ ap (λ b. cond b (Some v) (get m q)) same
    ∙ sym (ap (later_value (get m q)) (ap (λ (j : Text). value_back (get a j) (Some w)) (exact_test q k same) ∙ is))
step_back a m k w rest q (Some v) x false same is gone again =
    again (insert m k v) ∙ ap (λ y. later_value y (value_back (get a q) x)) (get-insert m k v q ∙ ap (λ b. cond b (Some v) (get m q)) same)

get-back : (a m : AttrMap) (ps : List Pair) (q : Text) → T (is_sorted text_cmp ps) → get (with_pairs m (pairs_back a ps)) q ≡ later_value (get m q) (value_back (get a q) (find text_cmp q ps))
get-back a m [] q h = refl
get-back a m (p ∷ ps) q h =
    step_back a m p.0 p.1 (pairs_back a ps) q _ (find text_cmp q ps) (eq_by_cmp text_cmp q p.0) refl refl
    (λ e. find_below q ps (subst (λ x. T (below_all text_cmp x ps)) (sym (exact_test q p.0 e)) (first _ _ h)))
    (λ n. get-back a n ps q (second _ _ h))

only_later : (x : Option Text) → later_value None x ≡ x
only_later None = refl
only_later (Some v) = refl

-- the pairs make the map
pub back_is : (m c : AttrMap) → of_pairs (pairs_back m c.pairs) ≡ restoring m c
back_is m c = same_values _ _ (λ q. get-back m none c.pairs q c.sorted ∙ only_later _ ∙ sym (get-restoring m c q))

-- ---- the laws

given_back : (x y : Option Text) → value_after None x ≡ x → value_after (value_after x y) (value_back x y) ≡ x
given_back None None e = refl
given_back (Some v) None e = refl
given_back None (Some []) e = refl
given_back None (Some (u ∷ us)) e = refl
given_back (Some []) (Some w) e = absurd cc
given_back (Some (v ∷ vs)) (Some w) e = go w (text_eq (v ∷ vs) w) refl
  where
    go : (w : Text) (b : Bool) → text_eq (v ∷ vs) w ≡ b → value_after (value_after (Some (v ∷ vs)) (Some w)) (if b then None else Some (v ∷ vs)) ≡ Some (v ∷ vs)
    go [] true h = absurd (subst (λ (t : Text). some t) (exact_test (v ∷ vs) [] h) tt)
      where
        some : Text → Type 0
        some [] = ⊥
        some (u ∷ us) = Unit {0}
    go (u ∷ us) true h = ap (λ (t : Text). Some t) (sym (exact_test (v ∷ vs) (u ∷ us) h))
    go w false h = refl

value_of_document : (m : AttrMap) → m ≡ after none m → (q : Text) → value_after None (get m q) ≡ get m q
value_of_document m e q = sym (get-after none m q) ∙ ap (λ (n : AttrMap). get n q) (sym e)

-- a document's map is restored
pub restored : (m c : AttrMap) → m ≡ after none m → after (after m c) (restoring m c) ≡ m
restored m c e = same_values _ _ (λ q.
    get-after (after m c) (restoring m c) q ∙ (λ i. value_after (get-after m c q i) (get-restoring m c q i)) ∙ given_back (get m q) (get c q) (value_of_document m e q))

-- nothing is altered by nothing
pub restoring-none : (m : AttrMap) → restoring m none ≡ none
restoring-none m = same_values _ _ (λ q. get-restoring m none q)

altered_not : (x y : Option Text) → value_after None x ≡ x → value_back x y ≡ None → value_after x y ≡ x
altered_not x None e h = refl
altered_not None (Some []) e h = refl
altered_not None (Some (u ∷ us)) e h = absurd cc
altered_not (Some v) (Some w) e h = go v w (text_eq v w) refl e h
  where
    go : (v w : Text) (b : Bool) → text_eq v w ≡ b → value_after None (Some v) ≡ Some v → ◌≡◌ {A = Option Text} (if b then None else Some v) None → value_after (Some v) (Some w) ≡ Some v
    go v w true same e h = ap (value_after (Some v)) (ap (λ (t : Text). Some t) (sym (exact_test v w same))) ∙ late v e
      where
        late : (v : Text) → value_after None (Some v) ≡ Some v → value_after (Some v) (Some v) ≡ Some v
        late [] e = absurd cc
        late (u ∷ us) e = refl
    go v w false same e h = absurd cc

not_back : (x y : Option Text) → value_after None x ≡ x → value_after x y ≡ x → value_back x y ≡ None
not_back x None e h = refl
not_back None (Some []) e h = refl
not_back None (Some (u ∷ us)) e h = absurd cc
not_back (Some v) (Some []) e h = absurd cc
not_back (Some v) (Some (u ∷ us)) e h = ap (λ b. if b then None else Some v) (itself' (u ∷ us) v h)
  where
    itself' : (w v : Text) → Some w ≡ Some v → text_eq v w ≡ true
    itself' w v h = subst (λ o. is_it o) (sym h) (itself v)
      where
        is_it : Option Text → Type 0
        is_it None = ⊥
        is_it (Some t) = text_eq v t ≡ true

-- a key is set exactly where its value was altered
pub back_exactly : (m c : AttrMap) (q : Text) → m ≡ after none m → (get (restoring m c) q ≡ None → get (after m c) q ≡ get m q) × (get (after m c) q ≡ get m q → get (restoring m c) q ≡ None)
back_exactly m c q e = (
  λ h. get-after m c q ∙ altered_not (get m q) (get c q) (value_of_document m e q) (sym (get-restoring m c q) ∙ h),
  λ h. get-restoring m c q ∙ not_back (get m q) (get c q) (value_of_document m e q) (sym (get-after m c q) ∙ h),
)
