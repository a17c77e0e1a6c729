use Rattle.ep_schedule.proofs.Parts.{headline}
use Rattle.ep_schedule.proofs.laws.never_refused.Goals as goal

pub returns : goal.returns
returns c = λ limits id events. (headline limits id events).fitting
