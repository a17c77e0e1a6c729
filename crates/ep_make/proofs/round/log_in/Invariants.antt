use Rattle.ep_make.specs.Made.{Leads}
use Rattle.ep_make.specs.Schedule.{Each, LogsIn}
use Rattle.ep_make.proofs.round.log_in.Given as goal

abbrev pub invariant-loop-k : goal.invariant-loop-k
invariant-loop-k g l = Leads g.D.Disk.told g.D.Device.failures g.D.Disk.stops_alone (Each LogsIn l.k) l.fn.world l.world
