use Rattle.std.proofs.Common.{◌≡◌, ◌≤◌, ◌+◌, drop, length, None}
use Rattle.ep_cs.specs.Runs.{all_inserted}
use Rattle.ep_csread.specs.Before.{map_before, first_cut}
use Rattle.ep_csread.proofs.pairs.first_cut.Given as goal

abbrev pub invariant-loop-i : goal.invariant-loop-i
invariant-loop-i l = record {
  same : first_cut l.used (map_before l.ops l.before) (drop l.i l.ops) (drop l.used l.bank) ≡ first_cut 0 None l.ops l.bank;
  room : l.used + all_inserted (drop l.i l.ops) ≤ length l.bank;
}
