use Rattle.std.proofs.Common.{◌≡◌}
use Rattle.ep_cs.proofs.packed.share.Given as goal

abbrev pub invariant-loop-i : goal.invariant-loop-i
invariant-loop-i l = l.ops ≡ l.initial.ops
