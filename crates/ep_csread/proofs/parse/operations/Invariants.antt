use Rattle.std.proofs.Common.{◌≡◌, length}
use Rattle.ep_csread.specs.Syntax.{ops_at}
use Rattle.ep_csread.proofs.Many.{with_front}
use Rattle.ep_csread.specs.Views.{op_views}
use Rattle.ep_csread.proofs.parse.operations.Given as goal

abbrev pub invariant-ops : goal.invariant-ops
invariant-ops l = with_front (op_views l.ops.items) (ops_at l.rest) ≡ ops_at l.text

abbrev pub decreases-ops : goal.decreases-ops
decreases-ops l = length l.rest
