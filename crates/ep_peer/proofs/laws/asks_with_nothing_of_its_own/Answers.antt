use Rattle.ep_peer.proofs.Altering.{idle_before}
use Rattle.ep_peer.proofs.laws.asks_with_nothing_of_its_own.Goals as goal

pub returns : goal.returns
returns c = λ pad token log more did out asked r. idle_before pad token log more did out asked r
