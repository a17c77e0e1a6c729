use Rattle.ep_schedule.specs.World.{start}
use Rattle.ep_make.specs.Schedule.{make_limits, pad_name}
use Rattle.ep_make.proofs.Whole.{created}
use Rattle.ep_make.proofs.schedule.begin.Goals as goal

pub returns : goal.returns
returns c = created _ _ _ c.play.new.world c.new-text.result c.new-text.ensures (c.in_ok-play.ensures (start make_limits pad_name) c.in_ok-world.ensures).1
