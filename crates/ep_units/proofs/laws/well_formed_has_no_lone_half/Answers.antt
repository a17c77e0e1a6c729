use Rattle.ep_units.proofs.Lone.{well_formed-first_lone}
use Rattle.ep_units.proofs.laws.well_formed_has_no_lone_half.Goals as goal

pub returns : goal.returns
returns c = well_formed-first_lone
