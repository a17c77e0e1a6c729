use Rattle.std.proofs.Common.{length}
use Rattle.ep_block_parts.proofs.Tails.{IsRest}
use Rattle.ep_block_parts.proofs.seen.without_tail.Given as goal

abbrev pub invariant-groups : goal.invariant-groups
invariant-groups l = IsRest l.text l.rest

abbrev pub decreases-groups : goal.decreases-groups
decreases-groups l = length l.rest
