use Rattle.std.proofs.Common.{◌∙◌, sym, ap, subst}
use Rattle.ep_cs.specs.Change.{Change}
use Rattle.ep_cs.specs.NormalRuns.{IsNormal}
use Rattle.ep_cs.proofs.Canonical.{canonical}
use Rattle.ep_cs.proofs.Packings.{normal_change}
use Rattle.ep_cs.proofs.packed.Packed.ops.Goals as goal

pub returns-clause-runs : goal.returns-clause-runs
returns-clause-runs c = c.as_slice.ensures.value ∙ sym (canonical c.self.inside.old_len c.self.inside.ops.items c.self.inside.bank c.self.invariant.normal) ∙ ap (λ (x : Change). x.runs) c.self.view_is

pub returns-clause-normal : goal.returns-clause-normal
returns-clause-normal c = subst IsNormal c.self.view_is (normal_change c.self.inside c.self.invariant)
