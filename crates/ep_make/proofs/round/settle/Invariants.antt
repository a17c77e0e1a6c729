use Rattle.ep_make.specs.Made.{Leads}
use Rattle.ep_make.specs.Schedule.{Settles}
use Rattle.ep_make.proofs.round.settle.Given as goal

abbrev pub invariant-times : goal.invariant-times
invariant-times g l = Leads g.D.Disk.told g.D.Device.failures g.D.Disk.stops_alone (Settles l._time l.name) l.fn.world l.world
