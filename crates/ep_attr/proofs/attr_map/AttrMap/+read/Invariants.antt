use Rattle.std.proofs.Common.{length}
use Rattle.ep_attr.proofs.attr_map.AttrMap.+read.Given as goal

abbrev pub decreases-read : goal.decreases-read
decreases-read l = length l.pairs.now
