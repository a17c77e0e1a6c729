use Rattle.std.proofs.Common.{length}
use Rattle.ep_timeslider.proofs.slider.+all_back.Given as goal

abbrev pub decreases-all_back : goal.decreases-all_back
decreases-all_back l = length l.steps.now
