use Rattle.std.proofs.Common.{length}
use Rattle.ep_timeslider.proofs.slider.+all_on.Given as goal

abbrev pub decreases-all_on : goal.decreases-all_on
decreases-all_on l = length l.steps.now
