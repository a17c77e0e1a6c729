use Rattle.std.proofs.Common.{◌≡◌, ◌+◌, ◌++◌, length}
use Rattle.ep_attr.specs.Attrs.{pairs_of}
use Rattle.ep_attr.specs.Merged.{merged}
use Rattle.ep_attr.specs.Rule.{value_of}
use Rattle.ep_attr.proofs.walk.merged.Given as goal

abbrev pub invariant-loop-remaining : goal.invariant-loop-remaining
invariant-loop-remaining l = pairs_of l.made.items ++ merged (value_of l.rule) (pairs_of l.remaining.left.now) (pairs_of l.remaining.right.now)
    ≡ merged (value_of l.rule) (pairs_of l.left) (pairs_of l.right)

abbrev pub decreases-loop-remaining : goal.decreases-loop-remaining
decreases-loop-remaining l = length l.remaining.left.now + length l.remaining.right.now
