use Rattle.std.proofs.Common.{ap}
use Rattle.ep_attr.specs.Attrs.{map_of_pairs, pairs_of}
use Rattle.ep_attr.proofs.attr_map.AttrMap.kept.Goals as goal

pub returns : goal.returns
returns c = ap (λ pairs. map_of_pairs (pairs_of pairs.items)) c.in_ok-new.ensures.ok
