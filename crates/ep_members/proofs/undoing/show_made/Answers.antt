use Rattle.std.proofs.Common.{◌≡◌, true, sym, subst}
use Rattle.std.specs.Prelude.{IfSome}
use Rattle.ep_cs.specs.Change.{Change}
use Rattle.ep_cs.specs.EditFits.{is_edit}
use Rattle.ep_history.proofs.Answered.{normal-edit}
use Rattle.ep_members.proofs.undoing.show_made.Goals as goal

pub returns-in-Some-clause-normal : goal.returns-in-Some-clause-normal
returns-in-Some-clause-normal c = subst (λ r. IfSome r (λ (x : Change). is_edit x.edit ≡ true)) (sym c.in-Some.is) (normal-edit c.in-Some.change c.ops-normal.ensures.normal)
