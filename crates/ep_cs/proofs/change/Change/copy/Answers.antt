use Rattle.std.proofs.Common.{◌∙◌, sym, ap}
use Rattle.ep_cs.specs.Kept.{kept_change}
use Rattle.ep_cs.proofs.Packings.{nothing_edit, nothing_runs}
use Rattle.ep_cs.proofs.change.Change.copy.Goals as goal

pub returns-in-Nothing : goal.returns-in-Nothing
returns-in-Nothing c =
    let is = sym (ap kept_change c.in-Nothing.is) ∙ c.self.view_is in
    let edit = c.identity.ensures.edit ∙ sym (nothing_edit c.in-Nothing.units c.in-Nothing.bank) in
    let runs = c.identity.ensures.runs ∙ nothing_runs c.in-Nothing.units c.in-Nothing.bank in
    (λ i. record { edit = edit i; runs = runs i }) ∙ is
