use Rattle.std.proofs.Common.{refl}
use Rattle.ep_pad.proofs.lazy.LazyPad.shut.Goals as goal

pub returns-clause-begun : goal.returns-clause-begun
returns-clause-begun g c = (c.args.disk, (refl, refl), refl, refl)
