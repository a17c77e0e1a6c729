use Rattle.std.proofs.lemmas.Result.{err_from_is_err_and}
use Rattle.ep_pad.proofs.Crashing.{steps-over}
use Rattle.ep_pad.proofs.Stepping.{asleep}
use Rattle.ep_pad.proofs.machine.PadMachine.accept.Goals as goal

pub returns-in_err-wake-clause-steps : goal.returns-in_err-wake-clause-steps
returns-in_err-wake-clause-steps g c st k s =
    let p = err_from_is_err_and c.from_residual.result c.from_residual.ensures.1 in
    rw (p.1, p.2) (steps-over g.D.Disk.told g.D.Device.failures g.D.Disk.moment g.D.Disk.since g.D.Device.is_steady g.D.Disk.stops_alone g.D.Disk.left st _ _ c.args.self.now _ (asleep g.D.Disk.told g.D.Device.failures g.D.Disk.moment g.D.Disk.since g.D.Device.is_steady g.D.Disk.stops_alone g.D.Disk.left st c.args.self.now _ _ _ (c.in_err-wake.ensures.wakes st k s)))

pub returns-clause-steps : goal.returns-clause-steps
returns-clause-steps g c st k s =
    let w = c.in_ok-wake.ensures.wakes st k s in
    steps-over g.D.Disk.told g.D.Device.failures g.D.Disk.moment g.D.Disk.since g.D.Device.is_steady g.D.Disk.stops_alone g.D.Disk.left st _ _ c.args.self.now _ (c.take.ensures.steps c.args.self.now st w.0 w.1 w.2)
