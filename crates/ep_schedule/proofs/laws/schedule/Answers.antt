use Rattle.ep_schedule.proofs.Parts.{headline}
use Rattle.ep_schedule.proofs.laws.schedule.Goals as goal

pub returns : goal.returns
returns c = headline
