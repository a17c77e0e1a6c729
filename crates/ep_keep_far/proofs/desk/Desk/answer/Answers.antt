use Rattle.std.proofs.Common.{◌∙◌, Some, refl, ap}
use Rattle.ep_keep_far.proofs.Telling.{hears_then, left_then}
use Rattle.ep_keep_far.proofs.desk.Desk.answer.Goals as goal

pub invariant_of-self-2 : goal.invariant_of-self-2
invariant_of-self-2 g c = record { left = left_then _ c.is_full.ensures.looked.1 c.push_reserved.ensures.sent.0 ∙ ap Some c.of-after.ensures }

pub returns : goal.returns
returns g c = λ is_answered. (c.call-said.result, c.call-said.ensures.asked, hears_then _ c.is_full.ensures.looked.1 c.push_reserved.ensures.sent.0 c.call-said.result refl)
