use Rattle.ep_wire_words.proofs.OneAnswer.{client_once, server_once}
use Rattle.ep_wire_words.proofs.laws.a_text_has_one_answer.Goals as goal

pub returns-clause-client : goal.returns-clause-client
returns-clause-client c = client_once

pub returns-clause-server : goal.returns-clause-server
returns-clause-server c = server_once
