use Rattle.ep_cs.proofs.Composed.{apply-compose}
use Rattle.ep_cs.proofs.laws.composed_is_both.Goals as goal

pub returns : goal.returns
returns c = apply-compose
