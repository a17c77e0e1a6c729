use Rattle.ep_apply.proofs.Walk.{IsOn}
use Rattle.ep_apply.proofs.applying.walked.Given as goal

abbrev pub invariant-loop-op : goal.invariant-loop-op
invariant-loop-op l = IsOn l.op-items l.bank l.doc l.out l.rest l.op-index l.at l.used
