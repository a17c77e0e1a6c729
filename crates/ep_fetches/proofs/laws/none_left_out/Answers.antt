use Rattle.ep_fetches.proofs.Lists.{nops-follow, revs-follow}
use Rattle.ep_fetches.proofs.laws.none_left_out.Goals as goal

pub returns : goal.returns
returns c = record { revs = revs-follow; nops = nops-follow }
