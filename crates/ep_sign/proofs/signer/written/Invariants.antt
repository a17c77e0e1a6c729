use Rattle.std.proofs.Common.{drop}
use Rattle.ep_sign.proofs.Loop.{IsAt}
use Rattle.ep_sign.proofs.signer.written.Given as goal

abbrev pub invariant-loop-op : goal.invariant-loop-op
invariant-loop-op l = IsAt l.author l.change l.out (drop l.op-index l.op-items)
