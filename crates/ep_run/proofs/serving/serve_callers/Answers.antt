use Rattle.ep_run.proofs.Serves.{known_code}
use Rattle.ep_run.proofs.serving.serve_callers.Goals as goal

pub returns-clause-known : goal.returns-clause-known
returns-clause-known g c = rw c.status_of.ensures (known_code c.serve.result)
