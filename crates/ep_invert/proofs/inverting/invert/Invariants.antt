use Rattle.std.proofs.Common.{length}
use Rattle.ep_invert.proofs.Walk.{IsInverting}
use Rattle.ep_invert.proofs.inverting.invert.Given as goal

abbrev pub invariant-runs : goal.invariant-runs
invariant-runs l = IsInverting l.change l.doc l.out l.runs l.rest

abbrev pub decreases-runs : goal.decreases-runs
decreases-runs l = length l.runs.ops
