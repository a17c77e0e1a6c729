use Rattle.std.proofs.Common.{◌≡◌, ◌≤◌, drop, length}
use Rattle.ep_block_parts.proofs.within.Within.skip.Given as goal

abbrev pub invariant-stretches : goal.invariant-stretches
invariant-stretches l = record {
  behind : drop l.left l.self ≡ drop l.units l.initial.self;
  enough : l.left ≤ length l.self;
}

abbrev pub decreases-stretches : goal.decreases-stretches
decreases-stretches l = l.left
