use Rattle.ep_world.proofs.Refusing.{law}
use Rattle.ep_world.proofs.schedule.late_law.Goals as goal

pub returns : goal.returns
returns c = law
