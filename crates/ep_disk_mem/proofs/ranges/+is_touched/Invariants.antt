use Rattle.std.proofs.Common.{length}
use Rattle.ep_disk_mem.proofs.ranges.+is_touched.Given as goal

abbrev pub decreases-is_touched : goal.decreases-is_touched
decreases-is_touched l = length l.ranges.now
