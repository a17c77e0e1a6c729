use Rattle.std.proofs.Common.{◌≡◌, ◌+◌, ◌-◌, ◌<◌, suc, ap, ◌∙◌, arith}
use Rattle.std.specs.VecDeque.{deque_len}
use Rattle.ep_recent.specs.Recent.{LastRevs, count_of, doc_before}
use Rattle.ep_recent.proofs.Told.{count_held}
use Rattle.ep_recent.proofs.recent.Recent.doc.Goals as goal

pub overflow_add-end : goal.overflow_add-end
overflow_add-end c =
    let count : c.self.inside.first + deque_len c.self.inside.kept ≡ count_of c.args.self.now = count_held c.self.inside _ c.self.view_is in
    let there = c.requires.there in
    let few = c.self.invariant.few in
    omega (arith, count, there, few)

pub returns-in_ok-made-in-Some-clause-is : goal.returns-in_ok-made-in-Some-clause-is
returns-in_ok-made-in-Some-clause-is c vs h =
    let same : c.self.inside.first ≡ c.args.self.now.first = ap (λ (k : LastRevs). k.first) c.self.view_is in
    let from = c.requires.first in
    let whole : c.args.self.now.first + (c.args.r + 1 - c.self.inside.first) ≡ suc c.args.r = omega (arith, same, from) in
    c.in_ok-made-in-Some.ensures.is vs h ∙ ap (doc_before vs) whole

pub returns-in-None-clause-none : goal.returns-in-None-clause-none
returns-in-None-clause-none c i d lt is =
    let same : c.self.inside.first ≡ c.args.self.now.first = ap (λ (k : LastRevs). k.first) c.self.view_is in
    let below : i < c.args.r + 1 - c.self.inside.first = omega (arith, same, lt) in
    c.in-None.ensures.none i d below is
