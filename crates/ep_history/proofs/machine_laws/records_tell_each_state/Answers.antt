use Rattle.ep_history.proofs.Steps.{first-kept, runs-kept, settled-kept, step-kept}
use Rattle.ep_history.proofs.machine_laws.records_tell_each_state.Goals as goal

pub returns : goal.returns
returns c = record { first = first-kept; step = step-kept; run = runs-kept; settled = settled-kept }
