use Rattle.ep_run.proofs.Writes.{known_code}
use Rattle.ep_run.proofs.writing.write_pad.Goals as goal

pub returns-in-Ok-clause-known : goal.returns-in-Ok-clause-known
returns-in-Ok-clause-known g c = rw c.status_of.ensures (known_code c.write_to.result)
