use Rattle.std.proofs.Common.{◌≡◌, ◌∙◌, ap, drop, sym, subst, IfOk, min, Vec, Global, ℕ}
use Rattle.std.specs.Prelude.{nat_le}
use Rattle.std.specs.List.{take_while}
use Rattle.std.proofs.Math.Seq.{drop-nil}
use Rattle.ep_pad_state.specs.Nops.{heads_of}
use Rattle.ep_pad_state.proofs.Noting.{behind, found-heads, found-none}
use Rattle.ep_pad_state.proofs.nops.Nops.heads_to.Goals as goal

pub returns-in-Some : goal.returns-in-Some
returns-in-Some c =
    let heads = found-heads c.self.inside.heads c.args.session c.key.result c.in-Some.heads.now c.key.ensures c.in-Some.ensures.value in
    let least = c.min.ensures ∙ ap (min c.args.told) (c.len.ensures ∙ sym c.deref.ensures.len) in
    subst (λ hs. IfOk c.up_to.result (λ (v : Vec ℕ Global). v.items ≡ take_while (λ h. nat_le h c.args.to) hs))
    (behind c.deref.result.now c.args.told c.min.result least ∙ ap (drop c.args.told) (c.deref.ensures.value ∙ heads ∙ ap (heads_of c.args.session) c.self.view_is)) c.up_to.ensures

pub returns-in-None : goal.returns-in-None
returns-in-None c =
    let none = found-none c.self.inside.heads c.args.session c.key.result c.key.ensures c.in-None.ensures.value ∙ ap (heads_of c.args.session) c.self.view_is in
    c.new.ensures.items ∙ ap (take_while (λ h. nat_le h c.args.to)) (sym (drop-nil c.args.told) ∙ ap (drop c.args.told) none)
