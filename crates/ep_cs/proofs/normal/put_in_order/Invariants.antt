use Rattle.std.proofs.Common.{◌≤◌, length, vec_len}
use Rattle.ep_cs.specs.Taken.{Taken}
use Rattle.ep_cs.proofs.normal.put_in_order.Given as goal

abbrev pub invariant-runs : goal.invariant-runs
invariant-runs l = record { taken : Taken l.fn.ops.items l.bank l.left.items l.drops.items l.rest.items l.used; room : l.used ≤ length l.bank }

abbrev pub decreases-runs : goal.decreases-runs
decreases-runs l = vec_len l.left
