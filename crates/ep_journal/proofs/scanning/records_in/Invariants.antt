use Rattle.std.proofs.Common.{◌≡◌, ◌++◌, map, length}
use Rattle.ep_journal.specs.File.{records_from}
use Rattle.ep_journal.proofs.scanning.records_in.Given as goal

abbrev pub invariant-loop-size : goal.invariant-loop-size
invariant-loop-size l = map (λ v. v.items) l.list.items ++ records_from 0 l.rest ≡ records_from 0 l.bytes

abbrev pub decreases-loop-size : goal.decreases-loop-size
decreases-loop-size l = length l.rest
