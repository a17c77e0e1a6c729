use Rattle.std.proofs.Common.{arith}
use Rattle.ep_make.specs.Round.{IsDrained}
use Rattle.ep_make.specs.Schedule.{Each}
use Rattle.ep_make.proofs.Steps.{each_begins, each_goes, leads_as}
use Rattle.ep_make.proofs.round.drain_all.Goals as goal

pub loop-k-init : goal.loop-k-init
loop-k-init g c = each_begins g.D.Disk.told g.D.Device.failures g.D.Disk.stops_alone IsDrained c.args.world.now

pub loop-k-preserved : goal.loop-k-preserved
loop-k-preserved g c =
    each_goes g.D.Disk.told g.D.Device.failures g.D.Disk.stops_alone IsDrained c.args.world.now c.loop-k.world c.drain.new.world c.loop-k.k c.in_ok-name.name c.in_ok-name.ensures c.loop-k.invariant
    c.in_ok-drain.ensures

pub returns : goal.returns
returns g c = leads_as g.D.Disk.told g.D.Device.failures g.D.Disk.stops_alone (Each IsDrained) c.args.world.now c.loop-k.world c.loop-k.k c.args.clients (omega arith) c.loop-k.invariant
