use Rattle.ep_peer.proofs.Altering.{next_of}
use Rattle.ep_peer.proofs.laws.answers_each_line.Goals as goal

pub returns : goal.returns
returns c = λ pad token log more line did out r. next_of pad token log more line did out r
