use Rattle.std.proofs.Common.{◌≡◌, refl, sym, ◌∙◌, subst}
use Rattle.ep_cs.specs.Fits.{Fits}
use Rattle.ep_cs.specs.Edit.{apply}
use Rattle.ep_undo.specs.Stacks.{AreHeard}
use Rattle.ep_undo.proofs.Held.{held-edited, held-nothing}
use Rattle.ep_undo.proofs.client.UndoClient.edit.Goals as goal

pub invariant_of-self : goal.invariant_of-self
invariant_of-self c =
    let f = subst (λ d. Fits c.args.change.now d) c.view.ensures.shown (c.in_ok-fits.ensures.fits.0 refl) in
    held-nothing c.self.inside _ c.args.change.now.edit c.edit.result c.self.invariant (sym c.is_identity.ensures ∙ c.if-is_identity.true) f.length c.edit.ensures.made c.edit.ensures.kept refl refl refl

pub invariant_of-self-2 : goal.invariant_of-self-2
invariant_of-self-2 c =
    let e = c.args.change.now.edit in
    held-edited c.self.inside _ e c.in_ok-back.back c.reserve.new.self.records.items c.push.new.self.records.items c.self.invariant
    (subst (λ xs. AreHeard c.self.inside.undos.records.items c.self.inside.recent.items xs) (sym c.reserve.ensures.same) c.in_ok-spread.ensures.undos)
    c.in_ok-spread.ensures.recent c.in_ok-edit.ensures.made
    (subst (λ d. Fits c.in_ok-back.back (apply e d)) c.view-2.ensures.shown c.in_ok-back.ensures.fits)
    (subst (λ d. apply c.in_ok-back.back.edit (apply e d) ≡ d) c.view-2.ensures.shown c.in_ok-back.ensures.undoes)
    c.push.ensures.chain c.cut.ensures.chain c.cut.ensures.count c.clear.ensures
