use Rattle.ep_step.proofs.Leading.{leads}
use Rattle.ep_step.proofs.laws.revisions_lead_to_the_head.Goals as goal

pub returns : goal.returns
returns c = leads
