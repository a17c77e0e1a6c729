use Rattle.std.proofs.Common.{length}
use Rattle.ep_units.specs.Text.{Text}
use Rattle.ep_cs.specs.Follow.{passes}
use Rattle.ep_cursor.specs.Left.{Left, steps_left}
use Rattle.ep_follow.specs.Gaps.{Moves}
use Rattle.ep_follow.specs.Writing.{said, IsGoing}
use Rattle.ep_follow.proofs.gap.keep_piece.Given as goal

abbrev pub invariant-runs : goal.invariant-runs
invariant-runs l = record {
  moves : Moves passes (said l.initial.out).steps (steps_left l.initial.a) (said l.out).steps (steps_left l.a);
  go : (b : Left) (made : Text) → IsGoing made l.initial.out l.initial.a b → IsGoing made l.out l.a b;
}

abbrev pub decreases-runs : goal.decreases-runs
decreases-runs l = length (steps_left l.a)
