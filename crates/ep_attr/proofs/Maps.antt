-- The laws of attribute maps, each by the value at a key.
use Rattle.std.proofs.Common.{◌≡◌, Bool, true, false, cond, ◌||◌, List, [], ◌∷◌, ◌++◌, T, Option, Some, None, is_some, refl, sym, ap, ◌∙◌, subst, Ordering, Less, Equal, Greater, is_eq, is_le}
use mathlib.Core.HLevel.{Σ_prop_path}
use lib.Dec.{T_prop}
use Rattle.std.specs.List.{list_any}
use Rattle.std.specs.Ordering.{eq_by_cmp, ordering_reverse}
use Rattle.std.specs.Cmp.Lexicographic.{nat_list_cmp_total}
use Rattle.std.specs.FinMap.{slice_cmp-IsAntisymmetric, nat_cmp-IsAntisymmetric}
use Rattle.std.specs.FinMap.Entries.{find, is_sorted, below_all, find-put, is_sorted-put, is_some-find, same_entries}
use Rattle.std.proofs.lemmas.List.Folds.{list_any-append}
use Rattle.ep_units.specs.Text.{Text, text_cmp, text_eq, text_le}
use Rattle.ep_attr.proofs.Keys.{first, second, find_below}
use Rattle.ep_attr.specs.Attrs.{map_of_pairs}
use Rattle.ep_attr.specs.Codes.{same_pairs_map}
use Rattle.ep_attr.specs.AttrMap.{Pair, AttrMap, none, get, checked, insert, with_pairs, of_pairs, insert_some, map_of, keys, pointwise, value_after, later_value, earlier_value, value_left, after, join, early, rest}

-- texts that tie are equal
pub exact_text : (a b : Text) → text_cmp a b ≡ Equal → a ≡ b
exact_text = slice_cmp-IsAntisymmetric nat_cmp-IsAntisymmetric

pub tied : (r : Ordering) → is_eq r ≡ true → r ≡ Equal
tied Less e = absurd (subst T (sym e) tt)
tied Equal e = refl
tied Greater e = absurd (subst T (sym e) tt)

pub exact_test : (a b : Text) → eq_by_cmp text_cmp a b ≡ true → a ≡ b
exact_test a b e = exact_text a b (tied (text_cmp a b) e)

pub pairs-checked : (ps : List Pair) (b : Bool) (e : is_sorted text_cmp ps ≡ b) (m : AttrMap) → T b → (checked ps b e m).pairs ≡ ps
pairs-checked ps true e m h = refl
pairs-checked ps false e m h = absurd h

-- the map of a map's own pairs
pub map_of_own_pairs : (m : AttrMap) → map_of_pairs m.pairs ≡ m
map_of_own_pairs m = same_pairs_map (map_of_pairs m.pairs) m (pairs-checked m.pairs _ refl none m.sorted)

pub get-insert : (m : AttrMap) (k v q : Text) → get (insert m k v) q ≡ cond (eq_by_cmp text_cmp q k) (Some v) (get m q)
get-insert m k v q =
    ap (find text_cmp q) (pairs-checked _ _ refl m (is_sorted-put text_cmp nat_list_cmp_total k v m.pairs m.sorted))
    ∙ find-put text_cmp nat_list_cmp_total q k v m.pairs

-- maps with equal values at each key are equal
pub same_values : (m n : AttrMap) → ((q : Text) → get m q ≡ get n q) → m ≡ n
same_values m n h =
    let e : m.pairs ≡ n.pairs = same_entries text_cmp nat_list_cmp_total exact_text m.pairs n.pairs m.sorted n.sorted h in
    let pairs : ◌≡◌ {A = (ps : List Pair) × T (is_sorted text_cmp ps)} (m.pairs, m.sorted) (n.pairs, n.sorted) = Σ_prop_path (λ ps. T_prop _) e in
    λ i. record { pairs = (pairs i).0; sorted = (pairs i).1 }

-- a key is there where the value is not there: both answers are alike
at_key : (f : Text → Option Text) (m : AttrMap) (q k : Text) (r : Option Text) (b t : Bool)
    → eq_by_cmp text_cmp q k ≡ t → f k ≡ r → get m q ≡ cond b (f q) None → get (insert_some m k r) q ≡ cond (t || b) (f q) None
at_key f m q k None b true same is h = h ∙ elim b as (λ b. cond b (f q) None ≡ f q) [ true ↦ refl | false ↦ sym (ap f (exact_test q k same) ∙ is) ]
at_key f m q k None b false same is h = h
at_key f m q k (Some v) b true same is h = get-insert m k v q ∙ ap (λ b. cond b (Some v) (get m q)) same ∙ sym (ap f (exact_test q k same) ∙ is)
at_key f m q k (Some v) b false same is h = get-insert m k v q ∙ ap (λ b. cond b (Some v) (get m q)) same ∙ h

pub get-map_of : (f : Text → Option Text) (ks : List Text) (q : Text) → get (map_of f ks) q ≡ cond (list_any (eq_by_cmp text_cmp q) ks) (f q) None
get-map_of f [] q = refl
get-map_of f (k ∷ ks) q = at_key f (map_of f ks) q k (f k) _ _ refl refl (get-map_of f ks q)

absent : (m : AttrMap) (q : Text) → list_any (eq_by_cmp text_cmp q) (keys m) ≡ false → get m q ≡ None
absent m q e = no_value (get m q) (is_some-find text_cmp q m.pairs ∙ e)
  where
    no_value : (o : Option Text) → is_some o ≡ false → o ≡ None
    no_value None e = refl
    no_value (Some v) e = absurd (subst T e tt)

pub get-pointwise : (f : Option Text → Option Text → Option Text) → f None None ≡ None → (a b : AttrMap) (q : Text) → get (pointwise f a b) q ≡ f (get a q) (get b q)
get-pointwise f nothing a b q = get-map_of (λ k. f (get a k) (get b k)) (keys a ++ keys b) q
    ∙ ap (λ t. cond t (f (get a q) (get b q)) None) (list_any-append (eq_by_cmp text_cmp q) (keys a) (keys b))
    ∙ go _ _ refl refl
  where
    go : (s t : Bool) → list_any (eq_by_cmp text_cmp q) (keys a) ≡ s → list_any (eq_by_cmp text_cmp q) (keys b) ≡ t → cond (s || t) (f (get a q) (get b q)) None ≡ f (get a q) (get b q)
    go true t e h = refl
    go false true e h = refl
    go false false e h = sym (ap (λ o. f o (get b q)) (absent a q e) ∙ ap (f None) (absent b q h) ∙ nothing)

pub get-after : (m c : AttrMap) (q : Text) → get (after m c) q ≡ value_after (get m q) (get c q)
get-after = get-pointwise value_after refl

pub get-join : (c d : AttrMap) (q : Text) → get (join c d) q ≡ later_value (get c q) (get d q)
get-join = get-pointwise later_value refl

pub get-early : (a b : AttrMap) (q : Text) → get (early a b) q ≡ earlier_value (get a q) (get b q)
get-early = get-pointwise earlier_value refl

pub get-rest : (a b : AttrMap) (q : Text) → get (rest a b) q ≡ value_left (get a q) (get b q)
get-rest = get-pointwise value_left refl

-- the laws of values
after_join : (m c d : Option Text) → value_after (value_after m c) d ≡ value_after m (later_value c d)
after_join m c None = refl
after_join m c (Some []) = refl
after_join m c (Some (u ∷ us)) = refl

join_join : (a b c : Option Text) → later_value (later_value a b) c ≡ later_value a (later_value b c)
join_join a b None = refl
join_join a b (Some c) = refl

join_none : (a : Option Text) → later_value None a ≡ a
join_none None = refl
join_none (Some a) = refl

join_rest : (a b : Option Text) → later_value a (value_left a b) ≡ earlier_value a b
join_rest None b = join_none b
join_rest (Some a) None = refl
join_rest (Some a) (Some b) = elim (text_le a b) as (λ t. later_value (Some a) (cond t None (Some b)) ≡ Some (cond t a b)) [ true ↦ refl | false ↦ refl ]

turned : (a b : Text) (r s : Ordering) → text_cmp a b ≡ r → text_cmp b a ≡ s → r ≡ ordering_reverse s → cond (is_le r) a b ≡ cond (is_le s) b a
turned a b Less Less p q e = absurd (subst (λ o. T (is_le o)) (e) tt)
turned a b Less Equal p q e = absurd (subst (λ o. T (is_eq o)) (sym e) tt)
turned a b Less Greater p q e = refl
turned a b Equal s p q e = exact_text a b p ∙ elim (is_le s) as (λ t. b ≡ cond t b a) [ true ↦ refl | false ↦ sym (exact_text a b p) ]
turned a b Greater Less p q e = refl
turned a b Greater Equal p q e = absurd (subst (λ o. T (is_eq o)) (sym e) tt)
turned a b Greater Greater p q e = absurd (subst (λ o. T (is_le o)) (sym e) tt)

early_turned : (a b : Option Text) → earlier_value a b ≡ earlier_value b a
early_turned None None = refl
early_turned None (Some b) = refl
early_turned (Some a) None = refl
early_turned (Some a) (Some b) = ap Some (turned a b _ _ refl refl (nat_list_cmp_total.antisymm a b))

-- the laws of maps
pub after-after : (m c d : AttrMap) → after (after m c) d ≡ after m (join c d)
after-after m c d = same_values _ _ (λ q.
    get-after (after m c) d q ∙ ap (λ o. value_after o (get d q)) (get-after m c q)
    ∙ after_join (get m q) (get c q) (get d q)
    ∙ sym (get-after m (join c d) q ∙ ap (value_after (get m q)) (get-join c d q)))

pub join-join : (a b c : AttrMap) → join (join a b) c ≡ join a (join b c)
join-join a b c = same_values _ _ (λ q.
    get-join (join a b) c q ∙ ap (λ o. later_value o (get c q)) (get-join a b q)
    ∙ join_join (get a q) (get b q) (get c q)
    ∙ sym (get-join a (join b c) q ∙ ap (later_value (get a q)) (get-join b c q)))

pub after-none : (m : AttrMap) → after m none ≡ m
after-none m = same_values _ _ (λ q. get-after m none q)

pub join-none : (m : AttrMap) → join m none ≡ m
join-none m = same_values _ _ (λ q. get-join m none q)

pub none-join : (m : AttrMap) → join none m ≡ m
none-join m = same_values _ _ (λ q. get-join none m q ∙ join_none (get m q))

pub join-rest : (a b : AttrMap) → join a (rest a b) ≡ early a b
join-rest a b = same_values _ _ (λ q.
    get-join a (rest a b) q ∙ ap (later_value (get a q)) (get-rest a b q) ∙ join_rest (get a q) (get b q) ∙ sym (get-early a b q))

pub early_comm : (a b : AttrMap) → early a b ≡ early b a
early_comm a b = same_values _ _ (λ q. get-early a b q ∙ early_turned (get a q) (get b q) ∙ sym (get-early b a q))

-- one pair joined onto a map is that pair inserted
pub join_one : (m : AttrMap) (k v : Text) → join m (insert none k v) ≡ insert m k v
join_one m k v = same_values _ _ (λ q.
    get-join m (insert none k v) q ∙ ap (later_value (get m q)) (get-insert none k v q)
    ∙ elim (eq_by_cmp text_cmp q k) as (λ b. later_value (get m q) (cond b (Some v) None) ≡ cond b (Some v) (get m q)) [ true ↦ refl | false ↦ refl ]
    ∙ sym (get-insert m k v q))

pub none-rest : (m : AttrMap) → rest none m ≡ m
none-rest m = same_values _ _ (λ q. get-rest none m q)

left_none : (a : Option Text) → value_left a None ≡ None
left_none None = refl
left_none (Some a) = refl

pub rest-none : (m : AttrMap) → rest m none ≡ none
rest-none m = same_values _ _ (λ q. get-rest m none q ∙ left_none (get m q))

pub diamond : (a b : AttrMap) → join a (rest a b) ≡ join b (rest b a)
diamond a b = join-rest a b ∙ early_comm a b ∙ sym (join-rest b a)

with_last : (m : AttrMap) (ps : List Pair) (k v : Text) → with_pairs m (ps ++ (k, v) ∷ []) ≡ insert (with_pairs m ps) k v
with_last m [] k v = refl
with_last m (p ∷ ps) k v = with_last (insert m p.0 p.1) ps k v

pub last_counts : (ps : List Pair) (k v q : Text) → get (of_pairs (ps ++ (k, v) ∷ [])) q ≡ cond (text_eq q k) (Some v) (get (of_pairs ps) q)
last_counts ps k v q = ap (λ m. get m q) (with_last none ps k v) ∙ get-insert (of_pairs ps) k v q

-- the value at a key of a map with pairs inserted, of which no two have one key
get-with_pairs : (m : AttrMap) (ps : List Pair) (q : Text) → T (is_sorted text_cmp ps) → get (with_pairs m ps) q ≡ later_value (get m q) (find text_cmp q ps)
get-with_pairs m [] q h = refl
get-with_pairs m (p ∷ ps) q h =
    get-with_pairs (insert m p.0 p.1) ps q (second _ _ h)
    ∙ ap (λ o. later_value o (find text_cmp q ps)) (get-insert m p.0 p.1 q)
    ∙ go _ refl
  where
    go : (b : Bool) → eq_by_cmp text_cmp q p.0 ≡ b → later_value (cond b (Some p.1) (get m q)) (find text_cmp q ps) ≡ later_value (get m q) (cond b (Some p.1) (find text_cmp q ps))
    go true e = ap (later_value (Some p.1)) (find_below q ps (subst (λ x. T (below_all text_cmp x ps)) (sym (exact_text q p.0 (tied _ e))) (first _ _ h)))
    go false e = refl

-- a map's own pairs make it again
pub of_own_pairs : (m : AttrMap) → of_pairs m.pairs ≡ m
of_own_pairs m = same_values _ _ (λ q. get-with_pairs none m.pairs q m.sorted ∙ join_none (get m q))

with_joined : (m : AttrMap) (ps : List Pair) → with_pairs m ps ≡ join m (of_pairs ps)
with_joined m [] = sym (join-none m)
with_joined m (p ∷ ps) =
    with_joined (insert m p.0 p.1) ps
    ∙ ap (λ n. join n (of_pairs ps)) (sym (join_one m p.0 p.1))
    ∙ join-join m (insert none p.0 p.1) (of_pairs ps)
    ∙ ap (join m) (sym (with_joined (insert none p.0 p.1) ps))

with_both : (m : AttrMap) (ps qs : List Pair) → with_pairs m (ps ++ qs) ≡ with_pairs (with_pairs m ps) qs
with_both m [] qs = refl
with_both m (p ∷ ps) qs = with_both (insert m p.0 p.1) ps qs

pub of_pairs-append : (ps qs : List Pair) → of_pairs (ps ++ qs) ≡ join (of_pairs ps) (of_pairs qs)
of_pairs-append ps qs = with_both none ps qs ∙ with_joined (of_pairs ps) qs
