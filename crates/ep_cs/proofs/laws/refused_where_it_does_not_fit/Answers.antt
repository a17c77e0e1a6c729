use Rattle.ep_cs.proofs.Refusals.{fitting, not_refused}
use Rattle.ep_cs.proofs.laws.refused_where_it_does_not_fit.Goals as goal

pub returns : goal.returns
returns c change doc normal = (not_refused change doc, fitting change doc normal)
