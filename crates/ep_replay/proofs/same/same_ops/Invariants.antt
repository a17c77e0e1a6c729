use Rattle.std.proofs.Common.{◌≡◌, drop}
use Rattle.ep_replay.specs.Same.{same_ops}
use Rattle.ep_replay.proofs.same.same_ops.Given as goal

abbrev pub invariant-loop-op : goal.invariant-loop-op
invariant-loop-op l = same_ops (drop l.op-index l.a) l.rest ≡ same_ops l.a l.b
