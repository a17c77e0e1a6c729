use Rattle.std.proofs.Common.{◌≡◌, false, true, rules}
use Rattle.ep_make.proofs.Steps.{drain_begins, drain_ends, drain_goes}
use Rattle.ep_make.proofs.playing.drain.Goals as goal

pub pushes-init : goal.pushes-init
pushes-init g c = drain_begins g.D.Disk.told g.D.Device.failures g.D.Disk.stops_alone c.args.name.now c.args.world.now

pub returns-then-not-told : goal.returns-then-not-told
returns-then-not-told g c =
    let none : c.in_ok-told.told ≡ false = search rules in
    drain_ends g.D.Disk.told g.D.Device.failures g.D.Disk.stops_alone c.args.name.now c.args.world.now c.pushes.world c.push.new.world c.in_ok-told.told none c.pushes.invariant c.in_ok-told.ensures

pub pushes-preserved : goal.pushes-preserved
pushes-preserved g c =
    let some : c.in_ok-told.told ≡ true = search rules in
    drain_goes g.D.Disk.told g.D.Device.failures g.D.Disk.stops_alone c.args.name.now c.args.world.now c.pushes.world c.push.new.world c.hear.new.world c.in_ok-told.told some c.pushes.invariant
    c.in_ok-told.ensures c.in_ok-hear.ensures
