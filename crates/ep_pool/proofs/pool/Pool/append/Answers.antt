use Rattle.std.proofs.Common.{◌≡◌, ◌<◌, ◌≤◌, ◌+◌, ◌++◌, ◌∷◌, [], ℕ, List, cond, is_ok, true, false, length, length-append, vec_len, vec_capacity, ap, ◌∙◌, sym, subst, arith}
use Rattle.ep_attr.specs.Attrs.{pairs_of}
use Rattle.ep_attr.specs.declared.attr_map.Attr.{Attr}
use Rattle.ep_pool.specs.Index.{are_within, is_rising, placed}
use Rattle.ep_pool.specs.Pool.{Pool, has, most_pairs, pair_of}
use Rattle.ep_pool.proofs.Attrs.{length-pairs_of}
use Rattle.ep_pool.proofs.Found.{AreNumbered, grown, rising_still, within_still}
use Rattle.ep_pool.proofs.pool.Pool.append.Goals as goal

pub unwrap-fork-requires : goal.unwrap-fork-requires
unwrap-fork-requires c = c.pop.ensures.variant.1 (omega (arith, ap (λ (v : Pool). v.spare) c.self.view_is, c.requires.room))

pub insert-requires-clause-within : goal.insert-requires-clause-within
insert-requires-clause-within c =
    let it = c.self.inside in
    let items = it.attrs.items in
    let a = c.args.attr in
    let are : AreNumbered items it.numbers = record { distinct = it.distinct; within = it.within; rising = it.rising; whole = it.whole } in
    let pushed : c.push.new.self.items ≡ items ++ a ∷ [] = c.push.ensures.items ∙ ap (λ r. cond (is_ok r) (items ++ a ∷ []) items) c.unwrap.ensures in
    subst (λ (xs : List Attr). are_within (length xs) it.numbers ≡ true) (sym (c.deref.ensures.value ∙ pushed)) (within_still items it.numbers are a)

pub insert-requires-clause-rising : goal.insert-requires-clause-rising
insert-requires-clause-rising c =
    let it = c.self.inside in
    let items = it.attrs.items in
    let a = c.args.attr in
    let are : AreNumbered items it.numbers = record { distinct = it.distinct; within = it.within; rising = it.rising; whole = it.whole } in
    let pushed : c.push.new.self.items ≡ items ++ a ∷ [] = c.push.ensures.items ∙ ap (λ r. cond (is_ok r) (items ++ a ∷ []) items) c.unwrap.ensures in
    subst (λ (xs : List Attr). is_rising (pairs_of xs) it.numbers ≡ true) (sym (c.deref.ensures.value ∙ pushed)) (rising_still items it.numbers are a)

pub invariant_of-self-inside : goal.invariant_of-self-inside
invariant_of-self-inside c =
    let it = c.self.inside in
    let items = it.attrs.items in
    let a = c.args.attr in
    let are : AreNumbered items it.numbers = record { distinct = it.distinct; within = it.within; rising = it.rising; whole = it.whole } in
    let pushed : c.push.new.self.items ≡ items ++ a ∷ [] = c.push.ensures.items ∙ ap (λ r. cond (is_ok r) (items ++ a ∷ []) items) c.unwrap.ensures in
    let none : has (pairs_of items) (pair_of a) ≡ false = ap (λ (v : Pool). has v.pairs (pair_of a)) c.self.view_is ∙ c.requires.new in
    let number_is : c.len-number.result ≡ length items = omega (arith, c.len-number.ensures, it.attrs.ok.0) in
    let placed_is : c.insert.new.self ≡ placed (pairs_of c.push.new.self.items) c.len-number.result it.numbers =
    c.insert.ensures ∙ ap (λ (xs : List Attr). placed (pairs_of xs) c.len-number.result it.numbers) c.deref.ensures.value in
    let more = grown items it.numbers are a c.push.new.self.items c.len-number.result c.insert.new.self none pushed number_is placed_is in
    let count : length c.push.new.self.items ≡ length items + 1 = ap length pushed ∙ length-append items (a ∷ []) in
    let few : length c.push.new.self.items ≤ most_pairs = omega (arith, count, c.requires.few, length-pairs_of items, ap (λ (v : Pool). length v.pairs) c.self.view_is) in
    let fewer = rw c.unwrap-fork.ensures at c.pop.ensures.len in
    let room : vec_len c.pop.new.self + vec_len c.push.new.self ≤ vec_capacity c.push.new.self = omega (arith, fewer, c.push.ensures.upper_bound, c.push.ensures.capacity, it.room) in
    (more.distinct, (few, (more.within, (more.rising, (more.whole, (room, tt))))))
