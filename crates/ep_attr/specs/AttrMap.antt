-- Attribute maps: pairs of a key and a value, by strictly rising key.
use Rattle.std.specs.Prelude.{◌≡◌, Bool, true, false, cond, ◌&&◌, List, [], ◌∷◌, ◌++◌, map, T, Option, Some, None, refl, codes}
use Rattle.std.proofs.Common.{subst, sym}
use Rattle.std.specs.FinMap.Entries.{find, put, is_sorted}
use Rattle.ep_units.specs.Text.{Text, text_cmp, text_eq, text_le}

abbrev pub Pair : Type 0
Pair = Text × Text

pub record AttrMap : Type 0 where
  pub pairs : List Pair
  pub sorted : T (is_sorted text_cmp pairs)

abbrev pub none : AttrMap
none = record { pairs = []; sorted = tt }

-- the value of a key
abbrev pub get : AttrMap → Text → Option Text
get m k = find text_cmp k m.pairs

-- these pairs where their keys rise, as they always do, and else the map
abbrev pub checked : (ps : List Pair) (b : Bool) → is_sorted text_cmp ps ≡ b → AttrMap → AttrMap
checked ps true e m = record { pairs = ps; sorted = subst T (sym e) tt }
checked ps false e m = m

abbrev pub insert : AttrMap → Text → Text → AttrMap
insert m k v = checked (put text_cmp k v m.pairs) _ refl m

abbrev pub insert_some : AttrMap → Text → Option Text → AttrMap
insert_some m k None = m
insert_some m k (Some v) = insert m k v

-- a map with pairs inserted in their order, the later value counting
abbrev pub with_pairs : AttrMap → List Pair → AttrMap
with_pairs m [] = m
with_pairs m (p ∷ ps) = with_pairs (insert m p.0 p.1) ps

-- the map of pairs in any order, the later value counting
abbrev pub of_pairs : List Pair → AttrMap
of_pairs ps = with_pairs none ps

-- the map that has these values at these keys
abbrev pub map_of : (Text → Option Text) → List Text → AttrMap
map_of f [] = none
map_of f (k ∷ ks) = insert_some (map_of f ks) k (f k)

abbrev pub keys : AttrMap → List Text
keys m = map (λ p. p.0) m.pairs

-- the map whose value at each key is f of the two values there
abbrev pub pointwise : (Option Text → Option Text → Option Text) → AttrMap → AttrMap → AttrMap
pointwise f a b = map_of (λ k. f (get a k) (get b k)) (keys a ++ keys b)

-- a value of a document after a value of a change, of which the empty one removes
abbrev pub value_after : Option Text → Option Text → Option Text
value_after old None = old
value_after old (Some []) = None
value_after old (Some (u ∷ us)) = Some (u ∷ us)

abbrev pub later_value : Option Text → Option Text → Option Text
later_value a None = a
later_value a (Some b) = Some b

abbrev pub earlier_value : Option Text → Option Text → Option Text
earlier_value None b = b
earlier_value (Some a) None = Some a
earlier_value (Some a) (Some b) = Some (cond (text_le a b) a b)

-- what is left of b's value where a's stands
abbrev pub value_left : Option Text → Option Text → Option Text
value_left None b = b
value_left (Some a) None = None
value_left (Some a) (Some b) = cond (text_le a b) None (Some b)

-- a document's map after a change's
abbrev pub after : AttrMap → AttrMap → AttrMap
after m c = pointwise value_after m c

-- both maps, the later value counting
abbrev pub join : AttrMap → AttrMap → AttrMap
join c d = pointwise later_value c d

-- both maps, the value that comes first in the order of texts counting
abbrev pub early : AttrMap → AttrMap → AttrMap
early a b = pointwise earlier_value a b

-- b without the keys that a sets to an equal or earlier value
abbrev pub rest : AttrMap → AttrMap → AttrMap
rest a b = pointwise value_left a b

abbrev pub same_pairs : List Pair → List Pair → Bool
same_pairs [] [] = true
same_pairs [] (q ∷ qs) = false
same_pairs (p ∷ ps) [] = false
same_pairs (p ∷ ps) (q ∷ qs) = text_eq p.0 q.0 && (text_eq p.1 q.1 && same_pairs ps qs)

abbrev pub same_map : AttrMap → AttrMap → Bool
same_map a b = same_pairs a.pairs b.pairs

abbrev pub is_none : AttrMap → Bool
is_none m = same_pairs m.pairs []

-- whether the map has (insertorder, first)
abbrev pub is_value : Text → Option Text → Bool
is_value v None = false
is_value v (Some w) = text_eq v w

abbrev pub has_first : AttrMap → Bool
has_first m = is_value (codes "first") (get m (codes "insertorder"))
