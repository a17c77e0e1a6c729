use Rattle.ep_wire_words.proofs.ClientAgain.{client_again}
use Rattle.ep_wire_words.proofs.laws.client_is_read_again.Goals as goal

pub returns : goal.returns
returns c = client_again
