use Rattle.std.proofs.Common.{◌≡◌, refl, ap, ◌∙◌, subst}
use Rattle.ep_cs.specs.Fits.{Fits}
use Rattle.ep_client.specs.declared.heard.Told.TheVariants as told
use Rattle.ep_undo.specs.Stacks.{Waits}
use Rattle.ep_undo.specs.Undo.{edited_beside}
use Rattle.ep_undo.proofs.Held.{held-beside, beside-made}
use Rattle.ep_undo.proofs.client.UndoClient.edit_beside.Goals as goal

pub invariant_of-self-2 : goal.invariant_of-self-2
invariant_of-self-2 c =
    let us = c.self.inside.undos.records.items in
    let rs = c.self.inside.redos.records.items in
    held-beside c.self.inside _ c.args.change.now c.self.invariant (subst (λ d. Fits c.args.change.now d) c.view.ensures.shown (c.in_ok-fits.ensures.fits.0 refl)) c.in_ok-edit.ensures.made refl refl
    (subst (λ d. Waits told.News us rs c.self.inside.recent.items d c.take_news.new.recent.items) c.in_ok-waiting.ensures
    (subst (λ cs. Waits told.News us rs cs c.in_ok-waiting.waiting c.take_news.new.recent.items) c.reserve.ensures.items c.take_news.ensures))

pub returns-clause-made : goal.returns-clause-made
returns-clause-made c =
    let us = c.self.inside.undos.records.items in
    let rs = c.self.inside.redos.records.items in
    beside-made c.self.inside c.edit.new.self c.args.change.now c.take_news.new.recent.items c.in_ok-edit.ensures.made
    (subst (λ d. Waits told.News us rs c.self.inside.recent.items d c.take_news.new.recent.items) c.in_ok-waiting.ensures
    (subst (λ cs. Waits told.News us rs cs c.in_ok-waiting.waiting c.take_news.new.recent.items) c.reserve.ensures.items c.take_news.ensures))
    ∙ ap (edited_beside c.args.change.now.edit) c.self.view_is
