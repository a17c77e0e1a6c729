use Rattle.std.proofs.Common.{arith}
use Rattle.ep_make.specs.Schedule.{Each, Settles}
use Rattle.ep_make.proofs.Steps.{each_begins, each_goes, leads_as}
use Rattle.ep_make.proofs.round.settle_all.Goals as goal

pub loop-k-init : goal.loop-k-init
loop-k-init g c = each_begins g.D.Disk.told g.D.Device.failures g.D.Disk.stops_alone (Settles 3) c.args.world.now

pub loop-k-preserved : goal.loop-k-preserved
loop-k-preserved g c =
    each_goes g.D.Disk.told g.D.Device.failures g.D.Disk.stops_alone (Settles 3) c.args.world.now c.loop-k.world c.settle.new.world c.loop-k.k c.in_ok-name.name c.in_ok-name.ensures c.loop-k.invariant
    c.in_ok-settle.ensures

pub returns : goal.returns
returns g c = leads_as g.D.Disk.told g.D.Device.failures g.D.Disk.stops_alone (Each (Settles 3)) c.args.world.now c.loop-k.world c.loop-k.k c.args.clients (omega arith) c.loop-k.invariant
