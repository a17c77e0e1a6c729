use Rattle.std.proofs.Common.{◌∙◌, sym, ap, subst}
use Rattle.ep_cs.specs.Change.{Change, bank_of}
use Rattle.ep_cs.specs.Kept.{kept_change, IsKept}
use Rattle.ep_cs.proofs.Packings.{nothing_bank}
use Rattle.ep_cs.proofs.change.Change.bank.Goals as goal

pub returns-in-Nothing : goal.returns-in-Nothing
returns-in-Nothing c =
    let is = sym (ap kept_change c.in-Nothing.is) ∙ c.self.view_is in
    let none = subst IsKept c.in-Nothing.is c.self.invariant in
    nothing_bank c.in-Nothing.units c.in-Nothing.bank none.1 ∙ ap (λ (x : Change). bank_of x.edit) is
