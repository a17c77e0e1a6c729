use Rattle.std.proofs.Common.{◌≡◌, ◌+◌, ◌++◌, length}
use Rattle.ep_units.specs.Text.{Text}
use Rattle.ep_cursor.specs.Left.{steps_left}
use Rattle.ep_follow.specs.Follows.{is_a}
use Rattle.ep_follow.specs.Gaps.{followed}
use Rattle.ep_follow.specs.Writing.{said, IsGoing}
use Rattle.ep_follow.proofs.step.walk.Given as goal

abbrev pub invariant-steps : goal.invariant-steps
invariant-steps l = record {
  same : (said l.out).steps ++ followed (is_a l.first) (steps_left l.a) (steps_left l.b) ≡ (said l.initial.out).steps ++ followed (is_a l.first) (steps_left l.initial.a) (steps_left l.initial.b);
  go : (made : Text) → IsGoing made l.initial.out l.initial.a l.initial.b → IsGoing made l.out l.a l.b;
}

abbrev pub decreases-steps : goal.decreases-steps
decreases-steps l = length (steps_left l.a) + length (steps_left l.b)
