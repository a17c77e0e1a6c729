use Rattle.std.proofs.Common.{◌∙◌, ◌+◌, ◌≤◌, ap, subst, Some, vec_len, vec_capacity, arith}
use Rattle.std.proofs.lemmas.Result.{on_ok_weaker}
use Rattle.std.specs.BTreeMap.{Updates}
use Rattle.ep_pad_state.specs.Nops.{key_cmp, heads_of}
use Rattle.ep_pad_state.proofs.Noting.{found-heads, found-none, through, written-same, written-room}
use Rattle.ep_pad_state.proofs.nops.Nops.reserve.Goals as goal

pub returns-in-Some-clause-heads : goal.returns-in-Some-clause-heads
returns-in-Some-clause-heads c = λ s.
    let old = c.self.inside.heads in
    let heads = c.reserve.new.self in
    let new = c.get_mut.follows.lender heads in
    written-same old new c.args.session c.key-key.result heads c.key-key.ensures
    (through old new c.key-key.result c.in-Some.heads.now heads c.in-Some.ensures.value (c.get_mut.follows.holds heads))
    (c.reserve.ensures.items ∙ found-heads old c.args.session c.key-key.result c.in-Some.heads.now c.key-key.ensures c.in-Some.ensures.value) s
    ∙ ap (heads_of s) c.self.view_is

pub returns-in_ok-insert-in-None-clause-heads : goal.returns-in_ok-insert-in-None-clause-heads
returns-in_ok-insert-in-None-clause-heads c = λ s.
    let old = c.self.inside.heads in
    let heads = c.in_ok-heads-in-None.heads in
    let new = c.insert.new.self in
    written-same old new c.args.session c.key-key.result heads c.key-key.ensures
    (subst (λ m. Updates key_cmp m new c.key-key.result (Some heads)) c.get_mut.follows.holds-at-none c.in_ok-insert-in-None.ensures.updates)
    (c.in_ok-heads-in-None.ensures.items ∙ found-none old c.args.session c.key-key.result c.key-key.ensures c.in-None.ensures.value) s
    ∙ ap (heads_of s) c.self.view_is

pub returns-in-Some-clause-room : goal.returns-in-Some-clause-room
returns-in-Some-clause-room c =
    let old = c.self.inside.heads in
    let heads = c.reserve.new.self in
    let new = c.get_mut.follows.lender heads in
    on_ok_weaker c.reserve.result
    (written-room old new c.args.session c.key-key.result heads c.key-key.ensures
    (through old new c.key-key.result c.in-Some.heads.now heads c.in-Some.ensures.value (c.get_mut.follows.holds heads)))
    c.reserve.ensures.ok

pub returns-in_ok-insert-in-None-clause-room : goal.returns-in_ok-insert-in-None-clause-room
returns-in_ok-insert-in-None-clause-room c =
    let heads = c.in_ok-heads-in-None.heads in
    let len = c.in_ok-heads-in-None.ensures.len in
    let exact = c.in_ok-heads-in-None.ensures.exact in
    let room : vec_len heads + 1 ≤ vec_capacity heads = omega (arith, len, exact) in
    written-room c.get_mut.follows.lender-at-none c.insert.new.self c.args.session c.key-key.result heads c.key-key.ensures c.in_ok-insert-in-None.ensures.updates room
