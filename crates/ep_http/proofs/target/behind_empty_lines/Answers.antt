use Rattle.ep_http.proofs.TargetLines.{one_more}
use Rattle.ep_http.proofs.target.behind_empty_lines.Goals as goal

pub lines-preserved : goal.lines-preserved
lines-preserved c = one_more _ _ _ c.lines.invariant c.in-Some.ensures
