use Rattle.ep_schedule.proofs.Parts.{headline}
use Rattle.ep_schedule.proofs.laws.committed_once.Goals as goal

pub returns : goal.returns
returns c = λ limits id events. (headline limits id events).once
