use Rattle.ep_history.proofs.Answered.{refused-stays}
use Rattle.ep_history.proofs.machine_laws.refusals_change_nothing.Goals as goal

pub returns : goal.returns
returns c = refused-stays
