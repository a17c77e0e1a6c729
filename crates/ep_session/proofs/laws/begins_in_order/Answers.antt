use Rattle.ep_session.proofs.Opening.{begin_law}
use Rattle.ep_session.proofs.laws.begins_in_order.Goals as goal

pub returns : goal.returns
returns c drawn log out r = begin_law drawn log out r
