use Rattle.ep_compose.proofs.Algebra.{after_identity, before_identity}
use Rattle.ep_compose.proofs.laws.composed_with_identity.Goals as goal

pub returns-clause-left : goal.returns-clause-left
returns-clause-left c e a doc n f is = after_identity e a doc n f is

pub returns-clause-right : goal.returns-clause-right
returns-clause-right c a e doc n f is = before_identity a e doc n f is
