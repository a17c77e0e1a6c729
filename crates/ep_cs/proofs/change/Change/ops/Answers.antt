use Rattle.std.proofs.Common.{◌∙◌, sym, ap, subst}
use Rattle.ep_cs.specs.Change.{Change}
use Rattle.ep_cs.specs.Kept.{kept_change, IsKept}
use Rattle.ep_cs.specs.NormalRuns.{IsNormal}
use Rattle.ep_cs.proofs.Packings.{nothing_runs, nothing_normal}
use Rattle.ep_cs.proofs.change.Change.ops.Goals as goal

pub returns-in-Nothing-clause-runs : goal.returns-in-Nothing-clause-runs
returns-in-Nothing-clause-runs c =
    let is = sym (ap kept_change c.in-Nothing.is) ∙ c.self.view_is in
    nothing_runs c.in-Nothing.units c.in-Nothing.bank ∙ ap (λ (x : Change). x.runs) is

pub returns-in-Nothing-clause-normal : goal.returns-in-Nothing-clause-normal
returns-in-Nothing-clause-normal c =
    let is = sym (ap kept_change c.in-Nothing.is) ∙ c.self.view_is in
    let none = subst IsKept c.in-Nothing.is c.self.invariant in
    subst IsNormal is (nothing_normal c.in-Nothing.units c.in-Nothing.bank none.1 none.0)
