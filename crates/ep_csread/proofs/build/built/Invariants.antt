use Rattle.std.proofs.Common.{length}
use Rattle.ep_csread.proofs.Building.{IsSoFar}
use Rattle.ep_csread.proofs.build.built.Given as goal

abbrev pub invariant-loop-op : goal.invariant-loop-op
invariant-loop-op l = IsSoFar l.old_len l.fn.ops.items l.bank (length l.yielded) l.used l.change
