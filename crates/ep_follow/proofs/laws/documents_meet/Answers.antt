use Rattle.std.proofs.Common.{true, false}
use Rattle.ep_follow.proofs.Identities.{meets_there}
use Rattle.ep_follow.proofs.laws.documents_meet.Goals as goal

pub returns : goal.returns
returns c = record {
  a_first = λ a b f g doc fa fb e h. meets_there true a b f g doc fa fb (e doc fa fb) (h doc fb fa);
  b_first = λ a b f g doc fa fb e h. meets_there false a b f g doc fa fb (e doc fa fb) (h doc fb fa);
}
