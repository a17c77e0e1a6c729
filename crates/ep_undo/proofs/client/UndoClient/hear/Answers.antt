use Rattle.std.proofs.Common.{refl, ap, ◌∙◌, subst}
use Rattle.ep_undo.specs.Stacks.{Waits}
use Rattle.ep_undo.specs.Undo.{undo_hears}
use Rattle.ep_undo.proofs.Held.{held-heard, hears-made}
use Rattle.ep_undo.proofs.client.UndoClient.hear.Goals as goal

pub invariant_of-self-2 : goal.invariant_of-self-2
invariant_of-self-2 c =
    held-heard c.self.inside _ c.args.heard.now c.told_of-told.result c.in_ok-change.change c.self.invariant c.told_of-told.ensures c.in_ok-change.ensures.made
    c.in_ok-change.ensures.fits c.in_ok-change.ensures.shown refl refl
    (subst (λ cs. Waits c.told_of-told.result c.self.inside.undos.records.items c.self.inside.redos.records.items cs c.in_ok-change.change c.take_news.new.recent.items) c.reserve.ensures.items c.take_news.ensures)

pub returns-clause-made : goal.returns-clause-made
returns-clause-made c =
    hears-made c.self.inside c.args.heard.now c.told_of-told.result c.hear_change.new.self c.in_ok-change.change c.take_news.new.recent.items c.told_of-told.ensures c.in_ok-change.ensures.made c.in_ok-change.ensures.change
    (subst (λ cs. Waits c.told_of-told.result c.self.inside.undos.records.items c.self.inside.redos.records.items cs c.in_ok-change.change c.take_news.new.recent.items) c.reserve.ensures.items c.take_news.ensures)
    ∙ ap (undo_hears c.args.heard.now) c.self.view_is
