use Rattle.std.proofs.Common.{◌≡◌, ◌≤◌}
use Rattle.ep_schedule.specs.World.{WorldState}
use Rattle.ep_make.specs.Lines.{seen_by}
use Rattle.ep_make.specs.Made.{IsOf}
use Rattle.ep_make.proofs.lines.count_agreeing.Given as goal

abbrev pub invariant-loop-k : goal.invariant-loop-k
invariant-loop-k g l = record {
  few : l.agreeing ≤ l.k;
  counts : (w : WorldState) → IsOf g.D.Disk.told g.D.Device.failures g.D.Disk.stops_alone l.world w → l.agreeing ≡ seen_by w l.doc l.k;
}
