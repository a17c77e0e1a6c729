use Rattle.ep_attr.proofs.Maps.{join-join}
use Rattle.ep_attr.proofs.laws.joined_in_any_grouping.Goals as goal

pub returns : goal.returns
returns c = join-join
