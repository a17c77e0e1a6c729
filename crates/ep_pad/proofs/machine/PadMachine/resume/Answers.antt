use Rattle.std.proofs.Common.{sym, subst}
use Rattle.std.proofs.lemmas.Result.{err_from_is_err_and}
use Rattle.ep_pad.specs.Crashes.{Comes}
use Rattle.ep_pad.proofs.Crashing.{steps-over}
use Rattle.ep_pad.proofs.Stepping.{asleep, changes}
use Rattle.ep_pad.proofs.machine.PadMachine.resume.Goals as goal

pub returns-in_err-wake : goal.returns-in_err-wake
returns-in_err-wake g c st k s =
    let p = err_from_is_err_and c.from_residual.result c.from_residual.ensures.1 in
    rw (p.1, p.2) (steps-over g.D.Disk.told g.D.Device.failures g.D.Disk.moment g.D.Disk.since g.D.Device.is_steady g.D.Disk.stops_alone g.D.Disk.left st _ _ c.args.self.now _ (asleep g.D.Disk.told g.D.Device.failures g.D.Disk.moment g.D.Disk.since g.D.Device.is_steady g.D.Disk.stops_alone g.D.Disk.left st c.args.self.now _ _ _ (c.in_err-wake.ensures.wakes st k s)))

pub returns : goal.returns
returns g c st k s =
    let w = c.in_ok-wake.ensures.wakes st k s in
    let m = subst (λ m. Comes g.D.Disk.told g.D.Device.failures g.D.Disk.moment g.D.Disk.since g.D.Device.is_steady g.D.Disk.stops_alone g.D.Disk.left c.args.self.now st m w.0) (sym c.self.view_is) w.2 in
    steps-over g.D.Disk.told g.D.Device.failures g.D.Disk.moment g.D.Disk.since g.D.Device.is_steady g.D.Disk.stops_alone g.D.Disk.left st _ _ c.args.self.now _ (changes g.D.Disk.told g.D.Device.failures g.D.Disk.moment g.D.Disk.since g.D.Device.is_steady g.D.Disk.stops_alone g.D.Disk.left st w.0 c.args.self.now _ _ _ _ _ k w.1 m (c.resume.ensures c.args.now))
