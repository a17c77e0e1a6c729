use Rattle.std.proofs.Common.{ap}
use Rattle.ep_revs.specs.Revisions.{Revisions}
use Rattle.ep_revs.proofs.Docs.{made-behind}
use Rattle.ep_revs.proofs.revs.Revs.since.Goals as goal

pub returns-clause-made : goal.returns-clause-made
returns-clause-made c =
    made-behind c.deref.result.now c.self.inside.revs.items c.args.self.now.revs c.args.base
    c.deref.ensures.value (ap (λ (r : Revisions). r.revs) c.self.view_is) c.self.invariant.kept.made
