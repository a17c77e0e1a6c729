use Rattle.ep_history.proofs.Recorded.{opens}
use Rattle.ep_history.proofs.record_laws.opened_first.Goals as goal

pub returns : goal.returns
returns c = opens
