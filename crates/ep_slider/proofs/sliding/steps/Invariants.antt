use Rattle.std.proofs.Common.{suc, length}
use Rattle.ep_slider.proofs.Steps.{IsSliding}
use Rattle.ep_slider.proofs.sliding.steps.Given as goal

abbrev pub invariant-steps : goal.invariant-steps
invariant-steps l = IsSliding (suc l.most) l.doc l.revs l.now l.rest l.forward.items l.backward.items

abbrev pub decreases-steps : goal.decreases-steps
decreases-steps l = length l.rest
