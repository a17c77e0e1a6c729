use Rattle.ep_frames.proofs.Due.{due_is, is_due}
use Rattle.ep_frames.proofs.laws.last_due_is_the_last.Goals as goal

pub returns : goal.returns
returns c = λ spacing r doc d cs. (λ e. due_is spacing r doc cs d e, λ is. is_due spacing r doc cs d is)
