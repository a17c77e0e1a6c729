use Rattle.std.proofs.Common.{◌∙◌, ◌∷◌, ◌++◌, [], ap, sym, subst}
use Rattle.ep_pad_state.specs.Nops.{HasRoom, heads_of, heads_in}
use Rattle.ep_pad_state.proofs.Noting.{found-heads, found-room, has-none, through, written-more}
use Rattle.ep_pad_state.proofs.nops.Nops.push_reserved.Goals as goal

pub push_reserved-requires : goal.push_reserved-requires
push_reserved-requires c =
    found-room c.self.inside.heads c.args.nop.session c.key.result c.in-Some.heads.now c.key.ensures c.in-Some.ensures.value
    (subst (HasRoom c.args.nop.session) (sym c.self.view_is) c.requires)

pub returns : goal.returns
returns c = λ s.
    let nop = c.args.nop in
    let old = c.self.inside.heads in
    let heads = c.push_reserved.new.self in
    let new = c.get_mut.follows.lender heads in
    written-more old new nop.session c.key.result heads c.key.ensures (through old new c.key.result c.in-Some.heads.now heads c.in-Some.ensures.value (c.get_mut.follows.holds heads)) nop.time nop.rev
    (c.push_reserved.ensures.items ∙ ap (λ hs. hs ++ nop.rev ∷ []) (found-heads old nop.session c.key.result c.in-Some.heads.now c.key.ensures c.in-Some.ensures.value)) s
    ∙ ap (λ k. heads_of s k ++ heads_in s (nop ∷ [])) c.self.view_is

pub unreachable-requires : goal.unreachable-requires
unreachable-requires c =
    has-none c.self.inside.heads c.args.nop.session c.key.result c.key.ensures c.in-None.ensures.value (subst (HasRoom c.args.nop.session) (sym c.self.view_is) c.requires)
