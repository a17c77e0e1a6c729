use Rattle.ep_cs.proofs.Items.{compose_assoc}
use Rattle.ep_cs.proofs.laws.composed_in_any_grouping.Goals as goal

pub returns : goal.returns
returns c = compose_assoc
