use Rattle.std.proofs.Common.{◌≡◌, drop}
use Rattle.ep_history.specs.Accept.{first_other}
use Rattle.ep_step.proofs.author.first_other.Given as goal

abbrev pub invariant-loop-i : goal.invariant-loop-i
invariant-loop-i l = first_other l.author l.i (drop l.i l.ops) ≡ first_other l.author 0 l.ops
