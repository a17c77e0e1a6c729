use Rattle.std.proofs.Common.{◌≡◌, ◌≤◌, ◌+◌, drop, length}
use Rattle.ep_cs.specs.Runs.{all_inserted}
use Rattle.ep_csread.specs.Reading.{first_unlined}
use Rattle.ep_csread.proofs.checks.first_unlined.Given as goal

abbrev pub invariant-loop-i : goal.invariant-loop-i
invariant-loop-i l = record { same : first_unlined l.i (drop l.i l.ops) (drop l.used l.bank) ≡ first_unlined 0 l.ops l.bank; room : l.used + all_inserted (drop l.i l.ops) ≤ length l.bank }
