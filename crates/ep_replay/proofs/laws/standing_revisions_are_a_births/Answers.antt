use Rattle.ep_replay.proofs.Births.{births_of}
use Rattle.ep_replay.proofs.laws.standing_revisions_are_a_births.Goals as goal

pub returns : goal.returns
returns c = births_of
