use Rattle.std.proofs.Common.{refl, sym, ap, ◌∙◌, subst}
use Rattle.ep_cs.specs.Doc.{text_of}
use Rattle.ep_cs.specs.Change.{Change, stamped}
use Rattle.ep_cs.specs.Fits.{Fits}
use Rattle.ep_history.specs.Kept.{KeptClient, kept_submitted}
use Rattle.ep_history.proofs.Lists.{none_some}
use Rattle.ep_client.proofs.Keeping.{held-first, sends-first, submits-first}
use Rattle.ep_client.proofs.client.Client.submit_first.Goals as goal

pub invariant_of-self : goal.invariant_of-self
invariant_of-self c =
    let none = ap (λ (k : KeptClient). k.sent_in) c.self.view_is ∙ c.requires.nothing in
    held-first c.self.inside _ c.self.invariant none (λ e. none_some (sym e)) refl refl c.replace.ensures.value
    (ap (λ (x : Change). x.edit) c.replace.ensures.after ∙ c.unchanged-rest.ensures.edit)
    (subst (λ x. Fits x c.self.inside.view) (sym c.replace.ensures.after) c.unchanged-rest.ensures.fits)

pub returns-clause-sent : goal.returns-clause-sent
returns-clause-sent c =
    let none = ap (λ (k : KeptClient). k.sent_in) c.self.view_is ∙ c.requires.nothing in
    let connected = ap (λ (k : KeptClient). k.connected) c.self.view_is ∙ c.requires.connected in
    let edit = λ (x : Change). x.edit in
    let change =
    sends-first c.self.inside c.in_ok-change.change c.self.invariant none c.in_ok-change.ensures
    ∙ ap (λ (x : Change). stamped x.edit (text_of c.self.inside.doc)) (sym c.replace.ensures.value) in (
      ap kept_submitted (sym c.self.view_is)
          ∙ submits-first _ _ _ connected none (sym c.is_identity.ensures ∙ c.if-is_identity.false) (ap edit c.replace.ensures.value) (ap edit c.replace.ensures.after ∙ c.unchanged-rest.ensures.edit),
      λ i. record { change = change i; base = c.self.inside.rev; session = c.self.inside.session },
    )
