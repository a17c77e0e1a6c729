use Rattle.ep_groups.proofs.Steps.{empty_is_ours, step_stays}
use Rattle.ep_groups.proofs.laws.ours_stays.Goals as goal

pub returns : goal.returns
returns c = record { empty = empty_is_ours; call = step_stays }
