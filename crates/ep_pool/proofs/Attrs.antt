-- What holds of attributes holds of their pairs.
use Rattle.std.proofs.Common.{◌≡◌, ◌+◌, suc, cond, not, ◌||◌, List, [], ◌∷◌, ◌++◌, length, refl, ap}
use Rattle.std.specs.List.{list_any, position_or_len}
use Rattle.ep_attr.specs.Attrs.{pairs_of}
use Rattle.ep_attr.specs.declared.attr_map.Attr.{Attr}
use Rattle.ep_pool.specs.Pool.{has, number_of, pair_of, same_attr}

pub has-pairs_of : (attrs : List Attr) (a : Attr) → has (pairs_of attrs) (pair_of a) ≡ list_any (same_attr a) attrs
has-pairs_of [] a = refl
has-pairs_of (b ∷ attrs) a = ap (λ t. same_attr a b || t) (has-pairs_of attrs a)

pub pairs_of-append : (xs ys : List Attr) → pairs_of (xs ++ ys) ≡ pairs_of xs ++ pairs_of ys
pairs_of-append [] ys = refl
pairs_of-append (x ∷ xs) ys = ap (λ ps. pair_of x ∷ ps) (pairs_of-append xs ys)

pub length-pairs_of : (attrs : List Attr) → length (pairs_of attrs) ≡ length attrs
length-pairs_of [] = refl
length-pairs_of (a ∷ attrs) = ap suc (length-pairs_of attrs)
