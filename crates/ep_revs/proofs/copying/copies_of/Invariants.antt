use Rattle.std.proofs.Common.{◌≡◌, take}
use Rattle.ep_revs.proofs.copying.copies_of.Given as goal

abbrev pub invariant-loop-rev : goal.invariant-loop-rev
invariant-loop-rev l = l.again.items ≡ take l.rev-index l.revs
