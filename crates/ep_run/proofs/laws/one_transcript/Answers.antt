use Rattle.ep_run.proofs.One.{one_transcript}
use Rattle.ep_run.proofs.laws.one_transcript.Goals as goal

pub returns : goal.returns
returns c = one_transcript
