use Rattle.std.proofs.Common.{◌≡◌, ◌+◌, [], false, cond, length}
use Rattle.ep_cursor.specs.Left.{steps_left}
use Rattle.ep_compose.specs.Composing.{IsComposing}
use Rattle.ep_compose.proofs.composing.compose.Given as goal

abbrev pub invariant-pieces : goal.invariant-pieces
invariant-pieces l = IsComposing l.first l.second l.out l.a l.b × (l.more ≡ false → (l.a.ops ≡ []) × (l.b.ops ≡ []))

abbrev pub decreases-pieces : goal.decreases-pieces
decreases-pieces l = length (steps_left l.a) + length (steps_left l.b) + cond l.more 1 0
