-- A map of texts as the list of its pairs, in the order of the keys' bytes, and what a keeper's calls say of it.
use Rattle.std.specs.Prelude.{ℕ, ◌≡◌, nat_eq, Bool, true, ◌&&◌, List, [], ◌∷◌, filter, Option, Some, None, IsTrue}
use Rattle.std.specs.List.{starts_with}
use Rattle.std.specs.Ordering.{nat_cmp, is_lt}
use Rattle.std.specs.Cmp.Lexicographic.{slice_cmp}
use Rattle.std.specs.declared.cmp.Ordering.{Ordering}
use Rattle.std.specs.declared.cmp.Ordering.TheVariants.{Less, Equal, Greater}
use Rattle.ep_outside.specs.declared.keeper.Pair.{Pair}
use Rattle.ep_outside.specs.declared.keeper.Put.{Put}

-- the order of two keys' bytes
abbrev pub key_cmp : List ℕ → List ℕ → Ordering
key_cmp = slice_cmp nat_cmp

abbrev pub by_order : {T : Type 0} → Ordering → T → T → T → T
by_order Less a b c = a
by_order Equal a b c = b
by_order Greater a b c = c

-- what stands under a key
abbrev pub value_at : List Pair → List ℕ → Option (List ℕ)
value_at [] key = None
value_at (p ∷ ps) key = by_order (key_cmp key p.key) None (Some p.value) (value_at ps key)

-- the map with this value under the key
abbrev pub with : List Pair → List ℕ → List ℕ → List Pair
with [] key value = record { key = key; value = value } ∷ []
with (p ∷ ps) key value = by_order (key_cmp key p.key) (record { key = key; value = value } ∷ p ∷ ps) (record { key = key; value = value } ∷ ps) (p ∷ with ps key value)

-- the map with nothing under the key
abbrev pub without : List Pair → List ℕ → List Pair
without [] key = []
without (p ∷ ps) key = by_order (key_cmp key p.key) (p ∷ ps) ps (p ∷ without ps key)

abbrev pub put_in : List Pair → List ℕ → Option (List ℕ) → List Pair
put_in m key None = without m key
put_in m key (Some value) = with m key value

-- the map after some puts, in their order
abbrev pub after : List Pair → List Put → List Pair
after m [] = m
after m (p ∷ ps) = after (put_in m p.key p.value) ps

-- the pairs whose keys begin so
abbrev pub listed : List Pair → List ℕ → List Pair
listed m prefix = filter (λ p. starts_with nat_eq p.key prefix) m

-- each key is less than the next
abbrev pub is_first : List ℕ → List Pair → Bool
is_first key [] = true
is_first key (p ∷ ps) = is_lt (key_cmp key p.key)

abbrev pub rises : List Pair → Bool
rises [] = true
rises (p ∷ ps) = is_first p.key ps && rises ps

abbrev pub Rises : Option (List Pair) → Type 0
Rises None = Unit {0}
Rises (Some m) = IsTrue (rises m)

abbrev pub IsTold : Option (List Pair) → Type 0
IsTold None = ⊥
IsTold (Some m) = Unit {0}

-- where a map is told now, it is the one of before
abbrev pub Stays : Option (List Pair) → Option (List Pair) → Type 0
Stays old None = Unit {0}
Stays old (Some m) = old ≡ Some m

-- where a map is told now, it is the one of before, and the value is what stands under the key
abbrev pub Gets : Option (List Pair) → Option (List Pair) → List ℕ → Option (List ℕ) → Type 0
Gets old None key value = Unit {0}
Gets old (Some m) key value = (old ≡ Some m) × (value ≡ value_at m key)

-- where a map is told now, it is the one of before, and the pairs are those whose keys begin so
abbrev pub Lists : Option (List Pair) → Option (List Pair) → List ℕ → List Pair → Type 0
Lists old None prefix pairs = Unit {0}
Lists old (Some m) prefix pairs = (old ≡ Some m) × (pairs ≡ listed m prefix)

-- where a map is told now, it is the one of before after the puts
abbrev pub Puts : Option (List Pair) → Option (List Pair) → List Put → Type 0
Puts old None puts = Unit {0}
Puts old (Some n) puts = (m : List Pair) × (old ≡ Some m) × (n ≡ after m puts)
