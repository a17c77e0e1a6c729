use Rattle.std.proofs.Common.{◌≡◌, ◌-◌}
use Rattle.ep_outside.specs.Disk.{Reaches}
use Rattle.ep_bench.proofs.journal.count_gates.Given as goal

abbrev pub invariant-loop-gate : goal.invariant-loop-gate
invariant-loop-gate g l = (g.D.Disk.told l.disk ≡ g.D.Disk.told l.fn.disk) × Reaches (g.D.Disk.told l.fn.disk) l.total

abbrev pub decreases-loop-gate : goal.decreases-loop-gate
decreases-loop-gate g l = l.total - l.gate
