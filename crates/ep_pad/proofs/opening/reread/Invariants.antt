use Rattle.std.proofs.Common.{◌≡◌, ◌≤◌, List, Some, take}
use Rattle.ep_outside.specs.Disk.{Contents, IsImage, KeepsMarks}
use Rattle.ep_outside.specs.Moments.{LeavesOnly}
use Rattle.ep_pad.proofs.Fronts.{AreRead}
use Rattle.ep_history.specs.Records.{AreLegal, told}
use Rattle.ep_history.specs.declared.record.Record.{Record}
use Rattle.ep_pad_file.specs.PadFile.{disk_of, limit_of, count_of}
use Rattle.ep_pad_file.specs.PadFile.{IsReady as IsFileReady}
use Rattle.ep_pad_file.specs.Standing.{Holds}
use Rattle.ep_pad_state.specs.Held.{IsPad}
use Rattle.ep_pad.proofs.opening.reread.Given as goal

abbrev pub invariant-loop-i : goal.invariant-loop-i
invariant-loop-i g l =
    ((rs : List Record) → Holds (g.D.Disk.told (disk_of l.fn.file)) rs → AreLegal l.fn.limits rs → IsPad l.pad (told l.fn.limits (take l.i rs)))
    × IsFileReady g.D.Disk.told l.file
    × (g.D.Disk.told (disk_of l.file) ≡ g.D.Disk.told (disk_of l.fn.file))
    × (count_of l.file ≡ count_of l.fn.file)
    × (limit_of l.file ≡ limit_of l.fn.file)
    × (g.D.Device.failures (disk_of l.fn.file) ≤ g.D.Device.failures (disk_of l.file))
    × ((c : Contents) → g.D.Disk.told (disk_of l.fn.file) ≡ Some c → AreRead l.fn.limits c.seen l.pad l.i)
    × KeepsMarks g.D.Device.is_steady g.D.Disk.stops_alone g.D.Disk.left (disk_of l.fn.file) (disk_of l.file)
    × LeavesOnly g.D.Disk.moment g.D.Disk.since (disk_of l.fn.file) (disk_of l.file) (IsImage (g.D.Disk.told (disk_of l.fn.file)))
