use Rattle.std.proofs.Common.{arith, refl}
use Rattle.ep_make.specs.Schedule.{Each, LogsIn}
use Rattle.ep_make.proofs.Steps.{each_begins, each_goes, leads_as}
use Rattle.ep_make.proofs.round.log_in.Goals as goal

pub loop-k-init : goal.loop-k-init
loop-k-init g c = each_begins g.D.Disk.told g.D.Device.failures g.D.Disk.stops_alone LogsIn c.args.world.now

pub loop-k-preserved : goal.loop-k-preserved
loop-k-preserved g c =
    each_goes g.D.Disk.told g.D.Device.failures g.D.Disk.stops_alone LogsIn c.args.world.now c.loop-k.world c.play.new.world c.loop-k.k c.in_ok-name.name c.in_ok-name.ensures c.loop-k.invariant
    (λ w at. (_, refl, (c.in_ok-play.ensures w at).1))

pub returns : goal.returns
returns g c = leads_as g.D.Disk.told g.D.Device.failures g.D.Disk.stops_alone (Each LogsIn) c.args.world.now c.loop-k.world c.loop-k.k c.args.clients (omega arith) c.loop-k.invariant
