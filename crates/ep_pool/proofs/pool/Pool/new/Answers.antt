use Rattle.std.proofs.Common.{◌≡◌, ◌<◌, ◌≤◌, ◌+◌, ℕ, List, [], length, true, refl, sym, subst, vec_len, vec_capacity, arith}
use Rattle.std.specs.List.{IsDistinct}
use Rattle.ep_attr.specs.Attrs.{pairs_of}
use Rattle.ep_attr.specs.declared.attr_map.Attr.{Attr}
use Rattle.ep_pool.specs.Index.{AreWhole, are_within, is_rising}
use Rattle.ep_pool.specs.Pool.{most_pairs, same_attr}
use Rattle.ep_pool.proofs.Found.{AreNumbered, numbered_none}
use Rattle.ep_pool.proofs.pool.Pool.new.Goals as goal

pub invariant_of-result : goal.invariant_of-result
invariant_of-result c =
    let are = numbered_none c.new.result.items c.new-2.result c.new.ensures.items c.new-2.ensures in
    let none : length c.new.result.items ≤ most_pairs = subst (λ (xs : List Attr). length xs ≤ most_pairs) (sym c.new.ensures.items) (omega arith) in
    (are.distinct, (none, (are.within, (are.rising, (are.whole, (omega (arith, c.new.ensures.len, c.new-3.ensures.len), tt))))))
