use Rattle.std.proofs.Common.{◌∙◌, sym, ap}
use Rattle.ep_cs.specs.Change.{Change}
use Rattle.ep_cs.specs.Kept.{kept_change}
use Rattle.ep_cs.specs.Fits.{is_identity}
use Rattle.ep_cs.proofs.Packings.{nothing_is}
use Rattle.ep_cs.proofs.change.Change.is_identity.Goals as goal

pub returns-in-Nothing : goal.returns-in-Nothing
returns-in-Nothing c =
    let is = sym (ap kept_change c.in-Nothing.is) ∙ c.self.view_is in
    nothing_is c.in-Nothing.units c.in-Nothing.bank ∙ ap (λ (x : Change). is_identity x.edit) is
