use Rattle.ep_timeslider.proofs.Walk.{walked-at}
use Rattle.ep_timeslider.proofs.laws.the_way_stays_in_the_history.Goals as goal

pub returns : goal.returns
returns c = walked-at
