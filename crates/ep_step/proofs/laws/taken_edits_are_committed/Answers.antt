use Rattle.ep_step.proofs.NopOrStep.{committed-nop, committed-step}
use Rattle.ep_step.proofs.laws.taken_edits_are_committed.Goals as goal

pub returns : goal.returns
returns c = record { nop = committed-nop; step = committed-step }
