use Rattle.ep_attr.proofs.Maps.{after-after}
use Rattle.ep_attr.proofs.laws.changes_made_one.Goals as goal

pub returns : goal.returns
returns c = after-after
