use Rattle.ep_make.specs.Made.{Leads}
use Rattle.ep_make.specs.Round.{IsDrained}
use Rattle.ep_make.specs.Schedule.{Each}
use Rattle.ep_make.proofs.round.drain_all.Given as goal

abbrev pub invariant-loop-k : goal.invariant-loop-k
invariant-loop-k g l = Leads g.D.Disk.told g.D.Device.failures g.D.Disk.stops_alone (Each IsDrained l.k) l.fn.world l.world
