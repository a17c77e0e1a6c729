use Rattle.ep_peer.proofs.Walking.{sends}
use Rattle.ep_peer.specs.Writer.{Opening}
use Rattle.ep_peer.proofs.laws.sends_its_lines.Goals as goal

pub returns : goal.returns
returns c = λ pad token log out r. sends (Opening pad token) log out r
