use Rattle.std.proofs.Common.{◌≡◌, ◌+◌, ◌≤◌, drop, min}
use Rattle.ep_cs.specs.Runs.{all_inserted, all_passed}
use Rattle.ep_csread.specs.Reading.{all_dropped, largest}
use Rattle.ep_csread.proofs.totals.Totals.of.Given as goal

abbrev pub invariant-loop-op : goal.invariant-loop-op
invariant-loop-op l = record {
  fits : (l.passed ≤ largest) × (l.dropped ≤ largest) × (l.inserted ≤ largest);
  passed : min (l.passed + all_passed (drop l.op-index l.ops)) largest ≡ min (all_passed l.ops) largest;
  dropped : min (l.dropped + all_dropped (drop l.op-index l.ops)) largest ≡ min (all_dropped l.ops) largest;
  inserted : min (l.inserted + all_inserted (drop l.op-index l.ops)) largest ≡ min (all_inserted l.ops) largest;
}
