use Rattle.std.proofs.Common.{length}
use Rattle.ep_apply.specs.Splices.{BeginWith}
use Rattle.ep_apply.proofs.splice.first_runs.Given as goal

abbrev pub invariant-first : goal.invariant-first
invariant-first l = BeginWith l.kind l.ops l.units l.rest

abbrev pub decreases-first : goal.decreases-first
decreases-first l = length l.rest
