use Rattle.ep_peer.proofs.Walking.{before_lined}
use Rattle.ep_peer.proofs.laws.reads_when_committed.Goals as goal

pub returns : goal.returns
returns c = λ pad token log more c out r. before_lined pad token log more c out r
