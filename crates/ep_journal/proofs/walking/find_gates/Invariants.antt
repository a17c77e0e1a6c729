use Rattle.std.proofs.Common.{◌≡◌, ◌-◌, ◌*◌, ◌≤◌, ◌<◌, length}
use Rattle.ep_outside.specs.Disk.{IsImage, KeepsMarks}
use Rattle.ep_outside.specs.Moments.{LeavesOnly}
use Rattle.ep_journal.specs.Reads.{ReadsUpTo}
use Rattle.ep_journal.specs.Walking.{AreSpaced, Walks}
use Rattle.ep_journal.proofs.walking.find_gates.Given as goal

abbrev pub invariant-loop-gates : goal.invariant-loop-gates
invariant-loop-gates g l = let disk = g.D.Disk in record {
  same : disk.told l.disk ≡ disk.told l.fn.disk;
  room : disk.room l.disk ≡ disk.room l.fn.disk;
  images : LeavesOnly disk.moment disk.since l.fn.disk l.disk (IsImage (disk.told l.fn.disk));
  marks : KeepsMarks g.D.Device.is_steady disk.stops_alone disk.left l.fn.disk l.disk;
  later : g.D.Device.failures l.fn.disk ≤ g.D.Device.failures l.disk;
  walks : Walks (disk.told l.fn.disk) l.total l.gates.items l.gate;
  spaced : AreSpaced l.gates.items l.gate;
  first : 8 ≤ l.gate;
  inside : l.gate < l.total;
  reads : ReadsUpTo (disk.bytes_read l.fn.disk) (disk.bytes_read l.disk) (5 * length l.gates.items);
}

abbrev pub decreases-loop-gates : goal.decreases-loop-gates
decreases-loop-gates g l = l.total - l.gate
