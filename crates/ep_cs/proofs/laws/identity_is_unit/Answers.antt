use Rattle.ep_cs.proofs.Items.{identity-compose, compose-identity}
use Rattle.ep_cs.proofs.laws.identity_is_unit.Goals as goal

pub returns : goal.returns
returns c = record { left = identity-compose; right = compose-identity }
