use Rattle.std.proofs.Common.{refl, sym, ap, ◌∙◌, subst}
use Rattle.ep_cs.specs.Change.{Change}
use Rattle.ep_cs.specs.Edit.{apply}
use Rattle.ep_cs.specs.Fits.{Fits}
use Rattle.ep_history.specs.Kept.{KeptClient}
use Rattle.ep_client.specs.Hearing.{kept_hears, view_change}
use Rattle.ep_undo.specs.Stacks.{Waits}
use Rattle.ep_undo.specs.Undo.{undo_hears}
use Rattle.ep_undo.proofs.Held.{held-heard, hears-made}
use Rattle.ep_undo.proofs.client.UndoClient.hear_change.Goals as goal

pub invariant_of-self-2 : goal.invariant_of-self-2
invariant_of-self-2 c =
    let old = c.self.inside.client in
    let is = c.in_ok-client.ensures in
    let d = c.in_ok-waiting.ensures in
    held-heard c.self.inside _ c.args.heard.now c.told_of-told.result c.in_ok-waiting.waiting c.self.invariant c.told_of-told.ensures
    (c.in_ok-change.ensures.made ∙ ap (kept_hears c.args.heard.now) is)
    (subst (λ (x : Change). Fits x old.view) (sym d) (subst (λ (k : KeptClient). Fits c.in_ok-change.change k.view) is c.in_ok-change.ensures.fits))
    (c.in_ok-change.ensures.shown ∙ ap (λ (k : KeptClient). apply c.in_ok-change.change.edit k.view) is ∙ ap (λ (x : Change). apply x.edit old.view) (sym d)) refl refl
    (subst (λ cs. Waits c.told_of-told.result c.self.inside.undos.records.items c.self.inside.redos.records.items cs c.in_ok-waiting.waiting c.take_news.new.recent.items) c.reserve.ensures.items c.take_news.ensures)

pub returns-clause-made : goal.returns-clause-made
returns-clause-made c =
    let is = c.in_ok-client.ensures in
    hears-made c.self.inside c.args.heard.now c.told_of-told.result c.hear_change.new.self c.in_ok-waiting.waiting c.take_news.new.recent.items c.told_of-told.ensures
    (c.in_ok-change.ensures.made ∙ ap (kept_hears c.args.heard.now) is)
    (ap (λ (x : Change). x.edit) c.in_ok-waiting.ensures ∙ c.in_ok-change.ensures.change ∙ ap (view_change c.args.heard.now) is)
    (subst (λ cs. Waits c.told_of-told.result c.self.inside.undos.records.items c.self.inside.redos.records.items cs c.in_ok-waiting.waiting c.take_news.new.recent.items) c.reserve.ensures.items c.take_news.ensures)
    ∙ ap (undo_hears c.args.heard.now) c.self.view_is
