use Rattle.ep_attr.proofs.Maps.{same_values}
use Rattle.ep_attr.proofs.laws.known_by_values.Goals as goal

pub returns : goal.returns
returns c = same_values
