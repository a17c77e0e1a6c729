use Rattle.ep_frames.proofs.Due.{none_due, not_due}
use Rattle.ep_frames.proofs.laws.none_is_due.Goals as goal

pub returns : goal.returns
returns c = λ spacing r doc cs. (λ e. none_due spacing r doc cs e, λ none. not_due spacing r doc cs none)
