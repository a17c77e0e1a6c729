use Rattle.ep_cs.proofs.Whole.{apply_whole}
use Rattle.ep_cs.proofs.laws.texts_stay_well_formed.Goals as goal

pub returns : goal.returns
returns c = apply_whole
