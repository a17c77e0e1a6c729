use Rattle.ep_make.specs.Made.{Leads}
use Rattle.ep_make.proofs.Steps.{DrainsFrom}
use Rattle.ep_make.proofs.playing.drain.Given as goal

abbrev pub invariant-pushes : goal.invariant-pushes
invariant-pushes g l = Leads g.D.Disk.told g.D.Device.failures g.D.Disk.stops_alone (DrainsFrom l.name) l.fn.world l.world
