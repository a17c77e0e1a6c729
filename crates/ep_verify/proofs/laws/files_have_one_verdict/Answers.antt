use Rattle.ep_verify.proofs.One.{one}
use Rattle.ep_verify.proofs.laws.files_have_one_verdict.Goals as goal

pub returns : goal.returns
returns c = one
