-- Pools as JSON.
use Rattle.std.specs.Prelude.{ℕ, suc, List, [], ◌∷◌, length, codes, decimal}
use Rattle.serde_json.specs.Data.{Data, number, unsigned, string, array, object, no_items, item, Members, no_members, member, put}
use Rattle.ep_attr.specs.AttrMap.{Pair}
use Rattle.ep_units.specs.Utf8.{utf8_of}

-- a pair is the list of its two texts
abbrev pub pair_json : Pair → Data
pair_json p = array (item (string (utf8_of p.0)) (item (string (utf8_of p.1)) no_items))

-- the members, after the pairs are put under the numbers from n on
abbrev pub numbered : Members → ℕ → List Pair → Members
numbered ms n [] = ms
numbered ms n (p ∷ ps) = numbered (put (decimal n) (pair_json p) ms) (suc n) ps

-- how many pairs there are, and each pair under its number
abbrev pub pool_json : List Pair → Data
pool_json ps =
    object (member (codes "nextNum") (number (unsigned (length ps))) (member (codes "numToAttrib") (object (numbered no_members 0 ps)) no_members))
