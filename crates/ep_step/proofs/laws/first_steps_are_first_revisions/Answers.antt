use Rattle.ep_step.proofs.Setting.{first-step}
use Rattle.ep_step.proofs.laws.first_steps_are_first_revisions.Goals as goal

pub returns : goal.returns
returns c = first-step
