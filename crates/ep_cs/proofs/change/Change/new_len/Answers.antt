use Rattle.std.proofs.Common.{◌∙◌, sym, ap}
use Rattle.ep_cs.specs.Change.{Change}
use Rattle.ep_cs.specs.Kept.{kept_change}
use Rattle.ep_cs.specs.Spelling.{new_len}
use Rattle.ep_cs.proofs.Packings.{nothing_new}
use Rattle.ep_cs.proofs.change.Change.new_len.Goals as goal

pub returns-in-Nothing : goal.returns-in-Nothing
returns-in-Nothing c =
    let is = sym (ap kept_change c.in-Nothing.is) ∙ c.self.view_is in
    nothing_new c.in-Nothing.units c.in-Nothing.bank ∙ ap (λ (x : Change). new_len x.edit) is
