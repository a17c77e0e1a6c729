use Rattle.ep_slider.proofs.Steps.{once_fits, once_ends}
use Rattle.ep_slider.proofs.laws.slides_lead_on.Goals as goal

pub returns-clause-fits : goal.returns-clause-fits
returns-clause-fits c = once_fits

pub returns-clause-ends : goal.returns-clause-ends
returns-clause-ends c = once_ends
