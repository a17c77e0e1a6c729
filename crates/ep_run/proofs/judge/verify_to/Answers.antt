use Rattle.ep_run.proofs.Judging.{known_code}
use Rattle.ep_run.proofs.judge.verify_to.Goals as goal

pub returns-clause-known : goal.returns-clause-known
returns-clause-known g c = rw c.status.ensures (known_code c.verify_to.result)
