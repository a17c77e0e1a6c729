-- Numbers in the order of their pairs, round one number: what stands left of it is below, what stands right above.
use Rattle.std.proofs.Common.{◌≡◌, ℕ, zero, suc, ◌+◌, ◌<◌, ◌≤◌, Bool, true, false, true≢false, not, ◌&&◌, ◌||◌, cond, List, [], ◌∷◌, ◌++◌, length, get_or, nat_eq, nat_lt, Option, Some, None, Ordering, Less, Equal, Greater, refl, sym, ap, ◌∙◌, subst, arith, length-append}
use Rattle.std.specs.Cmp.{IsTotalOrder}
use Rattle.std.proofs.lemmas.Cmp.{nat_list_cmp_total, on_total, then_total}
use Rattle.std.specs.List.{list_all, list_any}
use Rattle.std.specs.Ordering.{is_eq, is_lt, ordering_reverse}
use Rattle.std.proofs.lemmas.Bool.{and_parts, and_from, ltb-true}
use Rattle.std.proofs.lemmas.Option.{none-some}
use Rattle.ep_attr.specs.AttrMap.{Pair}
use Rattle.ep_attr.specs.Attrs.{pairs_of}
use Rattle.ep_attr.specs.declared.attr_map.Attr.{Attr}
use Rattle.ep_pool.specs.Pool.{pair_of}
use Rattle.ep_pool.specs.Index.{pair_cmp, pair_at, are_within, is_below, is_rising, number_at, placed}

pub pair_total : IsTotalOrder pair_cmp
pair_total = then_total (on_total (λ (p : Pair). p.1) nat_list_cmp_total) (on_total (λ (p : Pair). p.0) nat_list_cmp_total)

less_is : (o : Ordering) → is_lt o ≡ true → o ≡ Less
less_is Less e = refl
less_is Equal e = absurd (true≢false (sym e))
less_is Greater e = absurd (true≢false (sym e))

equal_is : (o : Ordering) → is_eq o ≡ true → o ≡ Equal
equal_is Less e = absurd (true≢false (sym e))
equal_is Equal e = refl
equal_is Greater e = absurd (true≢false (sym e))

neither : (o : Ordering) → is_lt o ≡ false → is_eq o ≡ false → o ≡ Greater
neither Less e f = absurd (true≢false e)
neither Equal e f = absurd (true≢false f)
neither Greater e f = refl

below_chain : (p q s : Pair) → is_lt (pair_cmp p q) ≡ true → is_lt (pair_cmp q s) ≡ true → is_lt (pair_cmp p s) ≡ true
below_chain p q s e f = ap is_lt (pair_total.trans p q s (less_is _ e) (less_is _ f))

below_differs : (p q : Pair) → is_lt (pair_cmp p q) ≡ true → is_eq (pair_cmp p q) ≡ false
below_differs p q e = ap is_eq (less_is _ e)

above_differs : (p q : Pair) → is_lt (pair_cmp q p) ≡ true → is_eq (pair_cmp p q) ≡ false
above_differs p q e = ap is_eq (pair_total.antisymm p q ∙ ap ordering_reverse (less_is _ e))

not_below : (p q s : Pair) → is_lt (pair_cmp s q) ≡ true → is_lt (pair_cmp p q) ≡ false → is_lt (pair_cmp p s) ≡ false
not_below p q s below none = go (is_lt (pair_cmp p s)) refl
  where
    go : (b : Bool) → is_lt (pair_cmp p s) ≡ b → b ≡ false
    go true e = absurd (true≢false (sym (below_chain p s q e below) ∙ none))
    go false e = refl

-- of a test that all pass
all_front : (p : ℕ → Bool) (l : List ℕ) (n : ℕ) (r : List ℕ) → list_all p (l ++ n ∷ r) ≡ true → list_all p l ≡ true
all_front p [] n r all = refl
all_front p (x ∷ l) n r all = let parts = and_parts _ _ all in and_from _ _ parts.0 (all_front p l n r parts.1)

all_middle : (p : ℕ → Bool) (l : List ℕ) (n : ℕ) (r : List ℕ) → list_all p (l ++ n ∷ r) ≡ true → p n ≡ true
all_middle p [] n r all = (and_parts _ _ all).0
all_middle p (x ∷ l) n r all = all_middle p l n r (and_parts _ _ all).1

all_back : (p : ℕ → Bool) (l : List ℕ) (n : ℕ) (r : List ℕ) → list_all p (l ++ n ∷ r) ≡ true → list_all p r ≡ true
all_back p [] n r all = (and_parts _ _ all).1
all_back p (x ∷ l) n r all = all_back p l n r (and_parts _ _ all).1

pub record AtFork (p : ℕ → Bool) (l : List ℕ) (n : ℕ) (r : List ℕ) : Type 0 where
  pub left : list_all p l ≡ true
  pub here : p n ≡ true
  pub right : list_all p r ≡ true

pub all_at : (p : ℕ → Bool) (l : List ℕ) (n : ℕ) (r : List ℕ) → list_all p (l ++ n ∷ r) ≡ true → AtFork p l n r
all_at p l n r all = record { left = all_front p l n r all; here = all_middle p l n r all; right = all_back p l n r all }

module _ (ps : List Pair) where
  pub rising_left : (l : List ℕ) (n : ℕ) (r : List ℕ) → is_rising ps (l ++ n ∷ r) ≡ true → is_rising ps l ≡ true
  rising_left [] n r h = refl
  rising_left (x ∷ l) n r h = let parts = and_parts _ _ h in and_from _ _ (all_front (is_below ps x) l n r parts.0) (rising_left l n r parts.1)

  pub rising_right : (l : List ℕ) (n : ℕ) (r : List ℕ) → is_rising ps (l ++ n ∷ r) ≡ true → is_rising ps r ≡ true
  rising_right [] n r h = (and_parts _ _ h).1
  rising_right (x ∷ l) n r h = rising_right l n r (and_parts _ _ h).1

  -- what is below a number is below all that it is below
  all_above : (p : Pair) (n : ℕ) (ns : List ℕ) → is_lt (pair_cmp p (pair_at ps n)) ≡ true → list_all (is_below ps n) ns ≡ true
      → list_all (λ m. is_lt (pair_cmp p (pair_at ps m))) ns ≡ true
  all_above p n [] below above = refl
  all_above p n (m ∷ ns) below above =
      let parts = and_parts _ _ above in
      and_from _ _ (below_chain p (pair_at ps n) (pair_at ps m) below parts.0) (all_above p n ns below parts.1)

  none_above : (p : Pair) (ns : List ℕ) → list_all (λ m. is_lt (pair_cmp p (pair_at ps m))) ns ≡ true → number_at ps p ns ≡ None
  none_above p [] above = refl
  none_above p (n ∷ ns) above =
      let parts = and_parts _ _ above in
      ap (λ b. cond b (Some n) (number_at ps p ns)) (below_differs p (pair_at ps n) parts.0) ∙ none_above p ns parts.1

  pub number_left : (p : Pair) (l : List ℕ) (n : ℕ) (r : List ℕ) → is_rising ps (l ++ n ∷ r) ≡ true → pair_cmp p (pair_at ps n) ≡ Less
      → number_at ps p (l ++ n ∷ r) ≡ number_at ps p l
  number_left p [] n r h below = none_above p (n ∷ r) (and_from _ _ (ap is_lt below) (all_above p n r (ap is_lt below) (and_parts _ _ h).0))
  number_left p (x ∷ l) n r h below = ap (cond (is_eq (pair_cmp p (pair_at ps x))) (Some x)) (number_left p l n r (and_parts _ _ h).1 below)

  pub number_right : (p : Pair) (l : List ℕ) (n : ℕ) (r : List ℕ) → is_rising ps (l ++ n ∷ r) ≡ true → pair_cmp p (pair_at ps n) ≡ Greater
      → number_at ps p (l ++ n ∷ r) ≡ number_at ps p r
  number_right p l n r h above = go l h
    where
      n_below : is_lt (pair_cmp (pair_at ps n) p) ≡ true
      n_below = ap is_lt (pair_total.antisymm (pair_at ps n) p ∙ ap ordering_reverse above)

      go : (l : List ℕ) → is_rising ps (l ++ n ∷ r) ≡ true → number_at ps p (l ++ n ∷ r) ≡ number_at ps p r
      go [] h = ap (λ b. cond b (Some n) (number_at ps p r)) (above_differs p (pair_at ps n) n_below)
      go (x ∷ l) h =
          let parts = and_parts _ _ h in
          let x_below = below_chain (pair_at ps x) (pair_at ps n) p (all_middle (is_below ps x) l n r parts.0) n_below in
          ap (λ b. cond b (Some x) (number_at ps p (l ++ n ∷ r))) (above_differs p (pair_at ps x) x_below) ∙ go l parts.1

  pub number_here : (p : Pair) (l : List ℕ) (n : ℕ) (r : List ℕ) → is_rising ps (l ++ n ∷ r) ≡ true → pair_cmp p (pair_at ps n) ≡ Equal
      → number_at ps p (l ++ n ∷ r) ≡ Some n
  number_here p [] n r h same = ap (λ b. cond b (Some n) (number_at ps p r)) (ap is_eq same)
  number_here p (x ∷ l) n r h same =
      let parts = and_parts _ _ h in
      let x_below = all_middle (is_below ps x) l n r parts.0 in
      let differs = ap is_eq (pair_total.congr p (pair_at ps n) (pair_at ps x) same) ∙ above_differs (pair_at ps n) (pair_at ps x) x_below in
      ap (λ b. cond b (Some x) (number_at ps p (l ++ n ∷ r))) differs ∙ number_here p l n r parts.1 same

  pub placed_left : (new : ℕ) (l : List ℕ) (n : ℕ) (r : List ℕ) → is_below ps new n ≡ true → placed ps new (l ++ n ∷ r) ≡ placed ps new l ++ n ∷ r
  placed_left new [] n r below = ap (λ b. cond b (new ∷ n ∷ r) (n ∷ placed ps new r)) below
  placed_left new (x ∷ l) n r below =
      elim (is_below ps new x) as (λ b. cond b (new ∷ x ∷ (l ++ n ∷ r)) (x ∷ placed ps new (l ++ n ∷ r)) ≡ cond b (new ∷ x ∷ l) (x ∷ placed ps new l) ++ n ∷ r) [
        | true ↦ refl
        | false ↦ ap (λ ns. x ∷ ns) (placed_left new l n r below)
      ]

  pub placed_right : (new : ℕ) (l : List ℕ) (n : ℕ) (r : List ℕ) → is_rising ps (l ++ n ∷ r) ≡ true → is_below ps new n ≡ false
      → placed ps new (l ++ n ∷ r) ≡ l ++ n ∷ placed ps new r
  placed_right new [] n r h above = ap (λ b. cond b (new ∷ n ∷ r) (n ∷ placed ps new r)) above
  placed_right new (x ∷ l) n r h above =
      let parts = and_parts _ _ h in
      let x_not = not_below (pair_at ps new) (pair_at ps n) (pair_at ps x) (all_middle (is_below ps x) l n r parts.0) above in
      ap (λ b. cond b (new ∷ x ∷ (l ++ n ∷ r)) (x ∷ placed ps new (l ++ n ∷ r))) x_not ∙ ap (λ ns. x ∷ ns) (placed_right new l n r parts.1 above)

  -- a test of the numbers and the new one
  pub all_placed : (p : ℕ → Bool) (new : ℕ) (ns : List ℕ) → p new ≡ true → list_all p ns ≡ true → list_all p (placed ps new ns) ≡ true
  all_placed p new [] here all = and_from _ _ here refl
  all_placed p new (m ∷ ms) here all =
      let parts = and_parts _ _ all in
      elim (is_below ps new m) as (λ b. list_all p (cond b (new ∷ m ∷ ms) (m ∷ placed ps new ms)) ≡ true) [
        | true ↦ and_from _ _ here all
        | false ↦ and_from _ _ parts.0 (all_placed p new ms here parts.1)
      ]

  swap : (a b c : Bool) → (a || (b || c)) ≡ (b || (a || c))
  swap true true c = refl
  swap true false c = refl
  swap false b c = refl

  pub any_placed : (p : ℕ → Bool) (new : ℕ) (ns : List ℕ) → list_any p (placed ps new ns) ≡ (p new || list_any p ns)
  any_placed p new [] = refl
  any_placed p new (m ∷ ms) =
      elim (is_below ps new m) as (λ b. list_any p (cond b (new ∷ m ∷ ms) (m ∷ placed ps new ms)) ≡ (p new || (p m || list_any p ms))) [
        | true ↦ refl
        | false ↦ ap (λ t. p m || t) (any_placed p new ms) ∙ swap (p m) (p new) (list_any p ms)
      ]

  record NotFirst (b : Bool) (rest : Option ℕ) : Type 0 where
    differs : b ≡ false
    none : rest ≡ None

  not_first : (b : Bool) (n : ℕ) (rest : Option ℕ) → cond b (Some n) rest ≡ None → NotFirst b rest
  not_first true n rest e = absurd (none-some n (sym e))
  not_first false n rest e = record { differs = refl; none = e }

  -- one more number of a pair that is not there
  pub rising_placed : (new : ℕ) (ns : List ℕ) → is_rising ps ns ≡ true → number_at ps (pair_at ps new) ns ≡ None → is_rising ps (placed ps new ns) ≡ true
  rising_placed new [] h none = refl
  rising_placed new (m ∷ ms) h none =
      let parts = and_parts _ _ h in
      let other = not_first (is_eq (pair_cmp (pair_at ps new) (pair_at ps m))) m (number_at ps (pair_at ps new) ms) none in
      go other.differs (rising_placed new ms parts.1 other.none) (is_below ps new m) refl
    where
      go : is_eq (pair_cmp (pair_at ps new) (pair_at ps m)) ≡ false → is_rising ps (placed ps new ms) ≡ true → (b : Bool) → is_below ps new m ≡ b
          → is_rising ps (cond b (new ∷ m ∷ ms) (m ∷ placed ps new ms)) ≡ true
      go differs later true e = and_from _ _ (and_from _ _ e (all_above (pair_at ps new) m ms e (and_parts _ _ h).0)) h
      go differs later false e =
          let above : is_below ps m new ≡ true = ap is_lt (pair_total.antisymm (pair_at ps m) (pair_at ps new) ∙ ap ordering_reverse (neither _ e differs)) in
          and_from _ _ (all_placed (is_below ps m) new ms above (and_parts _ _ h).0) later

pub within_left : (count : ℕ) (l : List ℕ) (n : ℕ) (r : List ℕ) → are_within count (l ++ n ∷ r) ≡ true → are_within count l ≡ true
within_left count l n r all = all_front (λ m. nat_lt m count) l n r all

pub within_right : (count : ℕ) (l : List ℕ) (n : ℕ) (r : List ℕ) → are_within count (l ++ n ∷ r) ≡ true → are_within count r ≡ true
within_right count l n r all = all_back (λ m. nat_lt m count) l n r all

pub within_here : (count : ℕ) (l : List ℕ) (n : ℕ) (r : List ℕ) → are_within count (l ++ n ∷ r) ≡ true → n < count
within_here count l n r all = ltb-true n count (all_middle (λ m. nat_lt m count) l n r all)

pub sides_shorter : (l : List ℕ) (n : ℕ) (r : List ℕ) → (length l < length (l ++ n ∷ r)) × (length r < length (l ++ n ∷ r))
sides_shorter l n r = (omega (arith, length-append l (n ∷ r)), omega (arith, length-append l (n ∷ r)))

-- what holds at the top of a tree that is seen as these numbers
pub record Top (ps : List Pair) (count : ℕ) (ns l : List ℕ) (n : ℕ) (r : List ℕ) : Type 0 where
  pub is : ns ≡ l ++ n ∷ r
  pub left_shorter : length l < length ns
  pub right_shorter : length r < length ns
  pub here : n < count
  pub left_within : are_within count l ≡ true
  pub right_within : are_within count r ≡ true
  pub left_rising : is_rising ps l ≡ true
  pub right_rising : is_rising ps r ≡ true
  pub rising : is_rising ps (l ++ n ∷ r) ≡ true

pub top : (ps : List Pair) (count : ℕ) (ns l : List ℕ) (n : ℕ) (r : List ℕ) → ns ≡ l ++ n ∷ r → are_within count ns ≡ true → is_rising ps ns ≡ true → Top ps count ns l n r
top ps count ns l n r e within rising =
    let w : are_within count (l ++ n ∷ r) ≡ true = subst (λ ms. are_within count ms ≡ true) e within in
    let s : is_rising ps (l ++ n ∷ r) ≡ true = subst (λ ms. is_rising ps ms ≡ true) e rising in record {
      is = e;
      left_shorter = subst (λ ms. length l < length ms) (sym e) (sides_shorter l n r).0;
      right_shorter = subst (λ ms. length r < length ms) (sym e) (sides_shorter l n r).1;
      here = within_here count l n r w;
      left_within = within_left count l n r w;
      right_within = within_right count l n r w;
      left_rising = rising_left ps l n r s;
      right_rising = rising_right ps l n r s;
      rising = s;
    }

-- an attribute's pair
pub pair_of_at : (attrs : List Attr) (n : ℕ) (a : Attr) → n < length attrs → a ≡ get_or attrs n a → pair_of a ≡ pair_at (pairs_of attrs) n
pair_of_at [] n a h e = absurd (omega arith)
pair_of_at (b ∷ attrs) zero a h e = ap pair_of e
pair_of_at (b ∷ attrs) (suc n) a h e = pair_of_at attrs n a (omega arith) e
