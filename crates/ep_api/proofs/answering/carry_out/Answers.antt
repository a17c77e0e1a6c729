use Rattle.std.proofs.Common.{refl}
use Rattle.ep_api.proofs.Doing.{rests}
use Rattle.ep_api.proofs.answering.carry_out.Goals as goal

pub returns-in-CheckToken-clause-does : goal.returns-in-CheckToken-clause-does
returns-in-CheckToken-clause-does g c = rw c.in-CheckToken.is (rests _ _ _ (refl, refl))
