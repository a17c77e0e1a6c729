use Rattle.ep_world.proofs.Showing.{lends}
use Rattle.ep_world.proofs.world.World.pad.Goals as goal

pub returns-clause-stands : goal.returns-clause-stands
returns-clause-stands g c = λ alone rs w ks s. lends g.D.Disk.told g.D.Device.failures g.D.Disk.stops_alone alone rs c.args.self.now w ks s
