-- Two lists of pairs in the order of their keys, taken pair by pair.
use Rattle.std.proofs.Common.{◌≡◌, Bool, true, false, cond, List, [], ◌∷◌, T, Option, Some, None, refl, sym, ap, ◌∙◌, subst, Less, Equal, Greater}
use Rattle.std.specs.Ordering.{is_lt, eq_by_cmp}
use Rattle.std.specs.FinMap.Entries.{find, is_sorted, below_all, by_order}
use Rattle.ep_units.specs.Text.{Text, text_cmp}
use Rattle.ep_attr.specs.AttrMap.{Pair, pointwise}
use Rattle.ep_attr.specs.Attrs.{map_of_pairs}
use Rattle.ep_attr.specs.Rule.{value_of}
use Rattle.ep_attr.specs.declared.walk.Rule.{Rule}
use Rattle.ep_attr.specs.declared.walk.Rule.TheVariants.{After, Join, Rest}
use Rattle.ep_attr.specs.Merged.{given, merged_right, merged_left, merged}
use Rattle.ep_attr.proofs.Keys.{both, first, second, is_less, below_less, find_below, turned}
use Rattle.ep_attr.proofs.Maps.{exact_text, tied, pairs-checked, same_values, get-pointwise}

-- given pairs stay below, sorted, and have the value
below_given : (x k : Text) (o : Option Text) (ps : List Pair) → T (is_lt (text_cmp x k)) → T (below_all text_cmp x ps) → T (below_all text_cmp x (given k o ps))
below_given x k None ps e h = h
below_given x k (Some v) ps e h = both _ _ e h

sorted_given : (k : Text) (o : Option Text) (ps : List Pair) → T (below_all text_cmp k ps) → T (is_sorted text_cmp ps) → T (is_sorted text_cmp (given k o ps))
sorted_given k None ps e h = h
sorted_given k (Some v) ps e h = both _ _ e h

find_given : (q k : Text) (o : Option Text) (ps : List Pair) → T (below_all text_cmp k ps) → find text_cmp q (given k o ps) ≡ cond (eq_by_cmp text_cmp q k) o (find text_cmp q ps)
find_given q k (Some v) ps h = refl
find_given q k None ps h = go _ refl
  where
    go : (b : Bool) → eq_by_cmp text_cmp q k ≡ b → find text_cmp q ps ≡ cond b None (find text_cmp q ps)
    go true e = find_below q ps (subst (λ x. T (below_all text_cmp x ps)) (sym (exact_text q k (tied _ e))) h)
    go false e = refl

module _ (f : Option Text → Option Text → Option Text) where
  below_right : (x : Text) (qs : List Pair) → T (below_all text_cmp x qs) → T (below_all text_cmp x (merged_right f qs))
  below_right x [] h = tt
  below_right x (q ∷ qs) h = below_given x q.0 (f None (Some q.1)) (merged_right f qs) (first _ _ h) (below_right x qs (second _ _ h))

  below_left : (x : Text) (p : Pair) (on : List Pair → List Pair) → T (is_lt (text_cmp x p.0))
      → ((zs : List Pair) → T (below_all text_cmp x zs) → T (below_all text_cmp x (on zs)))
      → (qs : List Pair) → T (below_all text_cmp x qs) → T (below_all text_cmp x (merged_left f p on qs))
  below_left x p on e ih [] h = below_given x p.0 (f (Some p.1) None) (on []) e (ih [] h)
  below_left x p on e ih (q ∷ qs) h =
      elim (text_cmp p.0 q.0) as (λ o. T (below_all text_cmp x (by_order o
      (given p.0 (f (Some p.1) None) (on (q ∷ qs)))
      (given p.0 (f (Some p.1) (Some q.1)) (on qs))
      (given q.0 (f None (Some q.1)) (merged_left f p on qs))))) [
        | Less ↦ below_given x p.0 (f (Some p.1) None) (on (q ∷ qs)) e (ih (q ∷ qs) h)
        | Equal ↦ below_given x p.0 (f (Some p.1) (Some q.1)) (on qs) e (ih qs (second _ _ h))
        | Greater ↦ below_given x q.0 (f None (Some q.1)) (merged_left f p on qs) (first _ _ h) (below_left x p on e ih qs (second _ _ h))
      ]

  below_merged : (x : Text) (ps qs : List Pair) → T (below_all text_cmp x ps) → T (below_all text_cmp x qs) → T (below_all text_cmp x (merged f ps qs))
  below_merged x [] qs g h = below_right x qs h
  below_merged x (p ∷ ps) qs g h = below_left x p (merged f ps) (first _ _ g) (λ zs e. below_merged x ps zs (second _ _ g) e) qs h

  -- the lists are in order, and what is made has the value at each key
  AreMerged : List Pair → List Pair → List Pair → Type 0
  AreMerged ps qs ms = T (is_sorted text_cmp ms) × ((x : Text) → find text_cmp x ms ≡ f (find text_cmp x ps) (find text_cmp x qs))

  -- one key before what is made of the pairs after it
  at_first : (k : Text) (l r : Option Text) (ps qs ms : List Pair) → T (below_all text_cmp k ps) → T (below_all text_cmp k qs) → T (below_all text_cmp k ms)
      → AreMerged ps qs ms → AreMerged (given k l ps) (given k r qs) (given k (f l r) ms)
  unfolding AreMerged
  at_first k l r ps qs ms g h b m = (
    sorted_given k (f l r) ms b m.0,
    λ x.
        find_given x k (f l r) ms b
        ∙ elim (eq_by_cmp text_cmp x k) as (λ t. cond t (f l r) (find text_cmp x ms) ≡ f (cond t l (find text_cmp x ps)) (cond t r (find text_cmp x qs))) [ true ↦ refl | false ↦ m.1 x ]
        ∙ sym (λ i. f (find_given x k l ps g i) (find_given x k r qs h i)),
  )

  are_right : f None None ≡ None → (qs : List Pair) → T (is_sorted text_cmp qs) → AreMerged [] qs (merged_right f qs)
  unfolding AreMerged
  are_right e [] h = (tt, λ x. sym e)
  are_right e (q ∷ qs) h = at_first q.0 None (Some q.1) [] qs (merged_right f qs) tt (first _ _ h) (below_right q.0 qs (first _ _ h)) (are_right e qs (second _ _ h))

  are_left : (p : Pair) (ps : List Pair) → T (is_sorted text_cmp (p ∷ ps))
      → ((zs : List Pair) → T (is_sorted text_cmp zs) → AreMerged ps zs (merged f ps zs))
      → (qs : List Pair) → T (is_sorted text_cmp qs) → AreMerged (p ∷ ps) qs (merged_left f p (merged f ps) qs)
  are_left p ps g ih [] h = at_first p.0 (Some p.1) None ps [] (merged f ps []) (first _ _ g) tt (below_merged p.0 ps [] (first _ _ g) tt) (ih [] tt)
  are_left p ps g ih (q ∷ qs) h =
      elim (text_cmp p.0 q.0) as (λ o. text_cmp p.0 q.0 ≡ o → AreMerged (p ∷ ps) (q ∷ qs) (by_order o
      (given p.0 (f (Some p.1) None) (merged f ps (q ∷ qs)))
      (given p.0 (f (Some p.1) (Some q.1)) (merged f ps qs))
      (given q.0 (f None (Some q.1)) (merged_left f p (merged f ps) qs)))) [
        | Less ↦ λ e.
            let low : T (below_all text_cmp p.0 (q ∷ qs)) = both _ _ (is_less _ e) (below_less p.0 q.0 qs e (first _ _ h)) in
            at_first p.0 (Some p.1) None ps (q ∷ qs) (merged f ps (q ∷ qs)) (first _ _ g) low (below_merged p.0 ps (q ∷ qs) (first _ _ g) low) (ih (q ∷ qs) h)
        | Equal ↦ λ e.
            let key : p.0 ≡ q.0 = exact_text p.0 q.0 e in
            let low : T (below_all text_cmp p.0 qs) = subst (λ k. T (below_all text_cmp k qs)) (sym key) (first _ _ h) in
            subst (λ k. AreMerged (p ∷ ps) ((k, q.1) ∷ qs) (given p.0 (f (Some p.1) (Some q.1)) (merged f ps qs))) key
            (at_first p.0 (Some p.1) (Some q.1) ps qs (merged f ps qs) (first _ _ g) low (below_merged p.0 ps qs (first _ _ g) low) (ih qs (second _ _ h)))
        | Greater ↦ λ e.
            let turn : text_cmp q.0 p.0 ≡ Less = turned p.0 q.0 e in
            let low : T (below_all text_cmp q.0 (p ∷ ps)) = both _ _ (is_less _ turn) (below_less q.0 p.0 ps turn (first _ _ g)) in
            at_first q.0 None (Some q.1) (p ∷ ps) qs (merged_left f p (merged f ps) qs) low (first _ _ h) (below_merged q.0 (p ∷ ps) qs low (first _ _ h)) (are_left p ps g ih qs (second _ _ h))
      ] refl

  are_merged : f None None ≡ None → (ps qs : List Pair) → T (is_sorted text_cmp ps) → T (is_sorted text_cmp qs) → AreMerged ps qs (merged f ps qs)
  are_merged e [] qs g h = are_right e qs h
  are_merged e (p ∷ ps) qs g h = are_left p ps g (λ zs z. are_merged e ps zs (second _ _ g) z) qs h

  pub sorted_merged : f None None ≡ None → (ps qs : List Pair) → T (is_sorted text_cmp ps) → T (is_sorted text_cmp qs) → T (is_sorted text_cmp (merged f ps qs))
  unfolding AreMerged
  sorted_merged e ps qs g h = (are_merged e ps qs g h).0

  find_merged : f None None ≡ None → (ps qs : List Pair) → T (is_sorted text_cmp ps) → T (is_sorted text_cmp qs)
      → (x : Text) → find text_cmp x (merged f ps qs) ≡ f (find text_cmp x ps) (find text_cmp x qs)
  unfolding AreMerged
  find_merged e ps qs g h = (are_merged e ps qs g h).1

pub pairs-map_of_pairs : (ps : List Pair) → T (is_sorted text_cmp ps) → (map_of_pairs ps).pairs ≡ ps
pairs-map_of_pairs ps h = pairs-checked ps _ refl _ h

-- what a walk over the pairs of two maps makes is the map of the values at each key
pub merged_is_pointwise : (f : Option Text → Option Text → Option Text) → f None None ≡ None → (ps qs : List Pair) → T (is_sorted text_cmp ps) → T (is_sorted text_cmp qs)
    → map_of_pairs (merged f ps qs) ≡ pointwise f (map_of_pairs ps) (map_of_pairs qs)
merged_is_pointwise f e ps qs g h = same_values _ _ (λ x.
    ap (find text_cmp x) (pairs-map_of_pairs (merged f ps qs) (sorted_merged f e ps qs g h))
    ∙ find_merged f e ps qs g h x
    ∙ sym (get-pointwise f e (map_of_pairs ps) (map_of_pairs qs) x
    ∙ (λ i. f (find text_cmp x (pairs-map_of_pairs ps g i)) (find text_cmp x (pairs-map_of_pairs qs h i)))))

-- where neither map has a key, no rule makes a value
pub nothing_of : (r : Rule) → value_of r None None ≡ None
nothing_of After = refl
nothing_of Join = refl
nothing_of Rest = refl
