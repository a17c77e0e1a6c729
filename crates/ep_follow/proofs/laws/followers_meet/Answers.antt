use Rattle.std.proofs.Common.{true, false, ap}
use Rattle.ep_cs.specs.Doc.{text_of}
use Rattle.ep_cs.specs.Edit.{Edit}
use Rattle.ep_cs.specs.Change.{stamped}
use Rattle.ep_follow.proofs.Identities.{meets}
use Rattle.ep_follow.proofs.laws.followers_meet.Goals as goal

pub returns : goal.returns
returns c = record {
  a_first = λ a b f g doc fa fb e h. ap (λ (x : Edit). stamped x (text_of doc)) (meets true a b f g doc fa fb (e doc fa fb) (h doc fb fa));
  b_first = λ a b f g doc fa fb e h. ap (λ (x : Edit). stamped x (text_of doc)) (meets false a b f g doc fa fb (e doc fa fb) (h doc fb fa));
}
