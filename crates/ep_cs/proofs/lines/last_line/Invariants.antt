use Rattle.std.proofs.Common.{◌≡◌, ◌≤◌, length, drop}
use Rattle.ep_cs.specs.Lines.{count_lines}
use Rattle.ep_cs.proofs.lines.last_line.Given as goal

abbrev pub invariant-back : goal.invariant-back
invariant-back l = record { within : l.at ≤ length l.text; behind : count_lines (drop l.at l.text) ≡ 0 }

abbrev pub decreases-back : goal.decreases-back
decreases-back l = l.at
