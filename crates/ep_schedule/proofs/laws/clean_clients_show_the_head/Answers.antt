use Rattle.ep_schedule.proofs.Parts.{headline}
use Rattle.ep_schedule.proofs.laws.clean_clients_show_the_head.Goals as goal

pub returns : goal.returns
returns c = λ limits id events. (headline limits id events).shows
