-- Attribute maps from the pairs that are kept.
use Rattle.std.specs.Prelude.{List, [], map, refl, Option, None, Some}
use Rattle.ep_attr.specs.AttrMap.{AttrMap, Pair, none, checked}
use Rattle.ep_attr.specs.declared.attr_map.Attr.{Attr}

abbrev pub pairs_of : List Attr → List Pair
pairs_of attrs = map (λ a. (a.key, a.value)) attrs

-- the map of these pairs, whose keys rise
abbrev pub map_of_pairs : List Pair → AttrMap
map_of_pairs ps = checked ps _ refl none

-- the elements of what is kept, of which there are none where nothing is kept
abbrev pub held : {X Y : Type 0} → Option X → (X → List Y) → List Y
held None items = []
held (Some kept) items = items kept
