use Rattle.std.proofs.Common.{length}
use Rattle.ep_units.specs.Text.{Text}
use Rattle.ep_cs.specs.Edit.{inserts}
use Rattle.ep_cursor.specs.Left.{Left, steps_left}
use Rattle.ep_follow.specs.Gaps.{Moves}
use Rattle.ep_follow.specs.Writing.{said, IsGoing}
use Rattle.ep_follow.proofs.gap.insert_piece.Given as goal

abbrev pub invariant-runs : goal.invariant-runs
invariant-runs l = record {
  moves : Moves inserts (said l.initial.out).steps (steps_left l.initial.b) (said l.out).steps (steps_left l.b);
  go : (a : Left) (made : Text) → IsGoing made l.initial.out a l.initial.b → IsGoing made l.out a l.b;
}

abbrev pub decreases-runs : goal.decreases-runs
decreases-runs l = length (steps_left l.b)
