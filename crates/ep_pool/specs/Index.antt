-- Working words of private contracts: the numbers of pairs in the order of the pairs.
use Rattle.std.specs.Prelude.{◌≡◌, ◌+◌, ◌<◌, ◌≤◌, ℕ, Bool, true, ◌&&◌, List, [], ◌∷◌, cond, length, Option, Some, None, slice_index_or, nat_eq, nat_lt}
use Rattle.std.specs.declared.cmp.Ordering.{Ordering}
use Rattle.std.specs.Ordering.{is_eq, is_lt, ordering_then}
use Rattle.std.specs.List.{list_all, list_any}
use Rattle.ep_attr.specs.AttrMap.{Pair}
use Rattle.ep_units.specs.Text.{text_cmp}

-- by value, and then by key
abbrev pub pair_cmp : Pair → Pair → Ordering
pair_cmp p q = ordering_then (text_cmp p.1 q.1) (text_cmp p.0 q.0)

-- the pair of a number that is there
abbrev pub pair_at : List Pair → ℕ → Pair
pair_at ps n = slice_index_or ps n ([], [])

-- the pair of the one number is below that of the other
abbrev pub is_below : List Pair → ℕ → ℕ → Bool
is_below ps m n = is_lt (pair_cmp (pair_at ps m) (pair_at ps n))

-- the pairs of the numbers rise
abbrev pub is_rising : List Pair → List ℕ → Bool
is_rising ps [] = true
is_rising ps (n ∷ ns) = list_all (is_below ps n) ns && is_rising ps ns

-- the numbers are those of pairs
abbrev pub are_within : ℕ → List ℕ → Bool
are_within count ns = list_all (λ n. nat_lt n count) ns

-- the numbers are all those of pairs
abbrev pub AreWhole : ℕ → List ℕ → Type 0
AreWhole count ns = (n : ℕ) → n < count → list_any (nat_eq n) ns ≡ true

-- the first of these numbers whose pair is equal
abbrev pub number_at : List Pair → Pair → List ℕ → Option ℕ
number_at ps p [] = None
number_at ps p (n ∷ ns) = cond (is_eq (pair_cmp p (pair_at ps n))) (Some n) (number_at ps p ns)

-- the numbers with one more, before the first whose pair is above its own
abbrev pub placed : List Pair → ℕ → List ℕ → List ℕ
placed ps n [] = n ∷ []
placed ps n (m ∷ ms) = cond (is_below ps n m) (n ∷ m ∷ ms) (m ∷ placed ps n ms)
