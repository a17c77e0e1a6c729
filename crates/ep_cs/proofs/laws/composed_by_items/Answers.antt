use Rattle.ep_cs.proofs.Items.{items-compose}
use Rattle.ep_cs.proofs.laws.composed_by_items.Goals as goal

pub returns : goal.returns
returns c = items-compose
