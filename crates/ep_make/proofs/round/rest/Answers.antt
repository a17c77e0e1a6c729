use Rattle.std.proofs.lemmas.Result.{on_ok_weaker}
use Rattle.ep_make.proofs.Steps.{rest_back, rest_drained}
use Rattle.ep_make.proofs.round.rest.Goals as goal

pub returns-in-0 : goal.returns-in-0
returns-in-0 g c =
    on_ok_weaker c.drain.result (rest_drained g.D.Disk.told g.D.Device.failures g.D.Disk.stops_alone c.args.number c.args.name.now c.args.world.now c.drain.new.world c.in-0.is) c.drain.ensures

pub returns-in-1 : goal.returns-in-1
returns-in-1 g c =
    on_ok_weaker c.come_back.result (rest_back g.D.Disk.told g.D.Device.failures g.D.Disk.stops_alone c.args.number c.args.name.now c.args.world.now c.come_back.new.world c.in-1.is) c.come_back.ensures
