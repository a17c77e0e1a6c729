-- Pools: lists of distinct pairs, numbered from 0.
use Rattle.std.specs.Prelude.{◌≡◌, ℕ, Bool, false, ◌&&◌, cond, List, [], ◌∷◌, ◌++◌}
use Rattle.std.specs.List.{AllByRecursion, IsDistinct, IsDistinct-prop, list_any, position_or_len}
use Rattle.std.specs.Coded.{Coded, coded_ℕ, coded_list, coded×}
use base.Stored.{coded_via}
use mathlib.Core.HLevel.{Σ_prop_path}
use Rattle.ep_units.specs.Text.{text_eq}
use Rattle.ep_attr.specs.AttrMap.{Pair}
use Rattle.ep_attr.specs.Attrs.{pairs_of}
use Rattle.ep_attr.specs.declared.attr_map.Attr.{Attr}

abbrev pub pair_of : Attr → Pair
pair_of a = (a.key, a.value)

-- the same key and the same value
abbrev pub same_pair : Pair → Pair → Bool
same_pair p q = text_eq p.0 q.0 && text_eq p.1 q.1

abbrev pub same_attr : Attr → Attr → Bool
same_attr a b = same_pair (pair_of a) (pair_of b)

-- the pair is there
abbrev pub has : List Pair → Pair → Bool
has ps p = list_any (same_pair p) ps

-- the pair at the end, where it isn't there
abbrev pub put : List Pair → Pair → List Pair
put ps p = cond (has ps p) ps (ps ++ p ∷ [])

-- the place of the pair, or how many there are where it isn't there
abbrev pub number_of : List Pair → Pair → ℕ
number_of ps p = position_or_len (same_pair p) ps

apart_pairs : (a : Attr) (bs : List Attr) → AllByRecursion (λ b. same_attr a b ≡ false) bs → AllByRecursion (λ q. same_pair (pair_of a) q ≡ false) (pairs_of bs)
apart_pairs a [] h = tt
apart_pairs a (b ∷ bs) h = (h.0, apart_pairs a bs h.1)

-- the pairs of distinct attributes are distinct
pub distinct_pairs : (attrs : List Attr) → IsDistinct same_attr attrs → IsDistinct same_pair (pairs_of attrs)
unfolding IsDistinct
distinct_pairs [] h = tt
distinct_pairs (a ∷ attrs) h = (apart_pairs a attrs h.0, distinct_pairs attrs h.1)

-- how many pairs a pool has at most
abbrev pub most_pairs : ℕ
most_pairs = 4294967295

-- distinct pairs, and how many more can be put without memory
pub record Pool : Type 0 where
  pub pairs : List Pair
  pub spare : ℕ
  pub distinct : IsDistinct same_pair pairs

-- pools with the same pairs and room are equal
pub same_pool : (m n : Pool) → ◌≡◌ {A = List Pair × ℕ} (m.pairs, m.spare) (n.pairs, n.spare) → m ≡ n
same_pool m n e =
    let parts : ◌≡◌ {A = (x : List Pair × ℕ) × IsDistinct same_pair x.0} ((m.pairs, m.spare), m.distinct) ((n.pairs, n.spare), n.distinct) = Σ_prop_path (λ x. IsDistinct-prop same_pair x.0) e in
    λ i. record { pairs = (parts i).0.0; spare = (parts i).0.1; distinct = (parts i).1 }

abbrev pub coded_pool : Coded Pool
coded_pool = coded_via (coded× (coded_list (coded× (coded_list coded_ℕ) (coded_list coded_ℕ))) coded_ℕ) (λ m. (m.pairs, m.spare)) same_pool
