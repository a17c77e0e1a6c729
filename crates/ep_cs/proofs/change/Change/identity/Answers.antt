use Rattle.std.proofs.Common.{[], sym}
use Rattle.ep_cs.proofs.Packings.{nothing_edit, nothing_runs}
use Rattle.ep_cs.proofs.change.Change.identity.Goals as goal

pub returns-clause-edit : goal.returns-clause-edit
returns-clause-edit c = nothing_edit c.args.units []

pub returns-clause-runs : goal.returns-clause-runs
returns-clause-runs c = sym (nothing_runs c.args.units [])
