use Rattle.std.proofs.Common.{◌≡◌, List, ap, ◌∙◌}
use Rattle.std.specs.List.{position}
use Rattle.ep_attr.specs.Attrs.{pairs_of}
use Rattle.ep_attr.specs.declared.attr_map.Attr.{Attr}
use Rattle.ep_pool.specs.Index.{number_at}
use Rattle.ep_pool.specs.Pool.{Pool, pair_of, same_pair}
use Rattle.ep_pool.proofs.Found.{AreNumbered, find_is}
use Rattle.ep_pool.proofs.pool.Pool.find.Goals as goal

pub returns : goal.returns
returns c =
    let it = c.self.inside in
    let p = pair_of c.args.attr.now in
    let are : AreNumbered it.attrs.items it.numbers = record { distinct = it.distinct; within = it.within; rising = it.rising; whole = it.whole } in
    c.find.ensures
    ∙ ap (λ (xs : List Attr). number_at (pairs_of xs) p it.numbers) c.deref.ensures.value
    ∙ find_is it.attrs.items it.numbers are p
    ∙ ap (λ (v : Pool). position (same_pair p) v.pairs) c.self.view_is
