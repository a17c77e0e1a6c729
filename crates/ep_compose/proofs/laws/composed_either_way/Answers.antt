use Rattle.ep_compose.proofs.Algebra.{either_way}
use Rattle.ep_compose.proofs.laws.composed_either_way.Goals as goal

pub returns : goal.returns
returns c' a b c doc fa fb fc = either_way a b c doc fa fb
