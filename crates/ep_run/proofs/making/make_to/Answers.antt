use Rattle.ep_run.proofs.Makings.{known_code}
use Rattle.ep_run.proofs.making.make_to.Goals as goal

pub returns-clause-known : goal.returns-clause-known
returns-clause-known g c = rw c.status_of.ensures (known_code c.make.result)
