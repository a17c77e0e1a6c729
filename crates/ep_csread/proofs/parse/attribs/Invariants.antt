use Rattle.std.proofs.Common.{◌≡◌, length}
use Rattle.ep_csread.specs.Syntax.{attribs_at}
use Rattle.ep_csread.proofs.Many.{with_front}
use Rattle.ep_csread.specs.Views.{op_views}
use Rattle.ep_csread.proofs.parse.attribs.Given as goal

abbrev pub invariant-ops : goal.invariant-ops
invariant-ops l = with_front (op_views l.ops.items) (attribs_at l.rest) ≡ attribs_at l.text

abbrev pub decreases-ops : goal.decreases-ops
decreases-ops l = length l.rest
