use Rattle.ep_wire_words.proofs.ServerAgain.{server_again}
use Rattle.ep_wire_words.proofs.laws.server_is_read_again.Goals as goal

pub returns : goal.returns
returns c = server_again
