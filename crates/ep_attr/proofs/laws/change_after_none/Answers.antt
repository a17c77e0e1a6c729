use Rattle.ep_attr.proofs.Maps.{after-none, none-join, join-none, none-rest, rest-none}
use Rattle.ep_attr.proofs.laws.change_after_none.Goals as goal

pub returns : goal.returns
returns c = record { after = after-none; join_left = none-join; join_right = join-none; rest_left = none-rest; rest_right = rest-none }
