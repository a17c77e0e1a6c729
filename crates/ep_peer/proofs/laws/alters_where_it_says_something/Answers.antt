use Rattle.ep_peer.proofs.Saying.{says}
use Rattle.ep_peer.proofs.laws.alters_where_it_says_something.Goals as goal

pub returns : goal.returns
returns c = λ e doc. says e doc
