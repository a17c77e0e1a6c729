use Rattle.std.proofs.Common.{arith}
use Rattle.ep_make.specs.Schedule.{Settles}
use Rattle.ep_make.proofs.Steps.{leads_as, settles_begin, settles_go}
use Rattle.ep_make.proofs.round.settle.Goals as goal

pub times-init : goal.times-init
times-init g c = settles_begin g.D.Disk.told g.D.Device.failures g.D.Disk.stops_alone c.args.name.now c.args.world.now

pub times-preserved : goal.times-preserved
times-preserved g c =
    settles_go g.D.Disk.told g.D.Device.failures g.D.Disk.stops_alone c.args.name.now c.args.world.now c.times.world c.drain.new.world c.send.new.world c.times._time c.times.invariant
    c.in_ok-drain.ensures c.in_ok-send.ensures

pub returns : goal.returns
returns g c = leads_as g.D.Disk.told g.D.Device.failures g.D.Disk.stops_alone (λ k. Settles k c.args.name.now) c.args.world.now c.times.world c.times._time 3 (omega arith) c.times.invariant
