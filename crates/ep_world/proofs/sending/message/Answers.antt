use Rattle.std.proofs.Common.{◌≡◌, true, sym, subst}
use Rattle.std.specs.Prelude.{IfOk}
use Rattle.ep_cs.specs.Change.{Change}
use Rattle.ep_cs.specs.EditFits.{is_edit}
use Rattle.ep_history.proofs.Answered.{normal-edit}
use Rattle.ep_world.proofs.sending.message.Goals as goal

pub returns-in-Ok-clause-normal : goal.returns-in-Ok-clause-normal
returns-in-Ok-clause-normal c = subst (λ r. IfOk r (λ (x : Change). is_edit x.edit ≡ true)) (sym c.in-Ok.is) (normal-edit c.in-Ok.change c.ops-normal.ensures.normal)
