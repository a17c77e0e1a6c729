use Rattle.ep_cs.proofs.Diamond.{compose-follow, diamond}
use Rattle.ep_cs.proofs.laws.followed_either_way.Goals as goal

pub returns : goal.returns
returns c = record { merged = compose-follow; diamond = diamond }
