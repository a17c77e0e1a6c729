use Rattle.ep_peer.proofs.Walking.{before_said}
use Rattle.ep_peer.proofs.laws.sends_when_committed.Goals as goal

pub returns : goal.returns
returns c = λ pad token log more base change out r. before_said pad token log more base change out r
