use Rattle.ep_http.proofs.Verdicts.{one}
use Rattle.ep_http.proofs.laws.bytes_come_to_one_answer.Goals as goal

pub returns : goal.returns
returns c = one
