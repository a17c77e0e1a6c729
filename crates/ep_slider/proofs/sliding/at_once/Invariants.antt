use Rattle.std.proofs.Common.{drop}
use Rattle.ep_slider.proofs.Steps.{IsAtOnce}
use Rattle.ep_slider.proofs.sliding.at_once.Given as goal

abbrev pub invariant-loop-change : goal.invariant-loop-change
invariant-loop-change l = IsAtOnce l.first l.later l.both (drop l.change-index l.later)
