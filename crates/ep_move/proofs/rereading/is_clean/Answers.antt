use Rattle.std.proofs.Common.{◌≡◌, IsTrue, subst}
use Rattle.ep_units.specs.Text.{Text}
use Rattle.ep_move.proofs.rereading.is_clean.Goals as goal

pub returns : goal.returns
returns c = subst (λ (us : Text). (IsTrue c.is_same.result → us ≡ c.args.text.now) × (us ≡ c.args.text.now → IsTrue c.is_same.result)) c.in_ok-cleaned.ensures.clean c.is_same.ensures
