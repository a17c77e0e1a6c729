use Rattle.ep_cs.proofs.Composed.{apply-compose}
use Rattle.ep_compose.proofs.laws.composed_does_both.Goals as goal

pub returns : goal.returns
returns c a b doc fa fb = apply-compose a.edit b.edit doc fa.length
