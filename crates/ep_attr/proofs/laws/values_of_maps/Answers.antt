use Rattle.ep_attr.proofs.Maps.{get-after, get-join, get-early, get-rest}
use Rattle.ep_attr.proofs.laws.values_of_maps.Goals as goal

pub returns : goal.returns
returns c = record { after = get-after; join = get-join; early = get-early; rest = get-rest }
