-- Working words of private contracts: the pairs of the map that restores a map.
use Rattle.std.specs.Prelude.{List, [], ◌∷◌, Some}
use Rattle.ep_attr.specs.AttrMap.{AttrMap, Pair, get}
use Rattle.ep_attr.specs.Merged.{given}
use Rattle.ep_invert.specs.Inverse.{value_back}

-- for each pair of a change the one that gives the map's value back, where it was altered
abbrev pub pairs_back : AttrMap → List Pair → List Pair
pairs_back m [] = []
pairs_back m (p ∷ ps) = given p.0 (value_back (get m p.0) (Some p.1)) (pairs_back m ps)
