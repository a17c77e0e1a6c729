use Rattle.ep_fields.proofs.Again.{number_again, session_again, flag_again, text_again, change_again, frame_again}
use Rattle.ep_fields.proofs.laws.fields_are_read_again.Goals as goal

pub returns-clause-numbers : goal.returns-clause-numbers
returns-clause-numbers c = number_again

pub returns-clause-sessions : goal.returns-clause-sessions
returns-clause-sessions c = session_again

pub returns-clause-flags : goal.returns-clause-flags
returns-clause-flags c = flag_again

pub returns-clause-texts : goal.returns-clause-texts
returns-clause-texts c = text_again

pub returns-clause-changes : goal.returns-clause-changes
returns-clause-changes c = change_again

pub returns-clause-frames : goal.returns-clause-frames
returns-clause-frames c = λ change rest is. frame_again change rest is.inserts
