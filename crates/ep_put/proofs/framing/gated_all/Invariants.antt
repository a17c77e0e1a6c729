use Rattle.std.proofs.Common.{drop}
use Rattle.ep_put.proofs.Gated.{IsFramed}
use Rattle.ep_put.proofs.framing.gated_all.Given as goal

abbrev pub invariant-loop-entry : goal.invariant-loop-entry
invariant-loop-entry l = IsFramed l.records l.out.items (drop l.entry-index l.records)
