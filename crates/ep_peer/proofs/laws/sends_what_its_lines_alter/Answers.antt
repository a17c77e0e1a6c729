use Rattle.ep_peer.proofs.Altering.{sends_alterations}
use Rattle.ep_peer.proofs.laws.sends_what_its_lines_alter.Goals as goal

pub returns : goal.returns
returns c = λ pad token log out r. sends_alterations pad token log out r
