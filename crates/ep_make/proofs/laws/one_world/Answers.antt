use Rattle.ep_make.proofs.One.{one_world}
use Rattle.ep_make.proofs.laws.one_world.Goals as goal

pub returns : goal.returns
returns c = one_world
