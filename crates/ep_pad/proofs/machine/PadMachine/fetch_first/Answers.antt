use Rattle.std.proofs.Common.{sym, subst}
use Rattle.std.proofs.lemmas.Result.{err_from_is_err_and}
use Rattle.ep_pad.specs.Crashes.{Comes}
use Rattle.ep_pad.proofs.Stepping.{asleep-first, reads-first, steps-first}
use Rattle.ep_pad.proofs.machine.PadMachine.fetch_first.Goals as goal

pub returns-in_err-wake : goal.returns-in_err-wake
returns-in_err-wake g c st k s =
    let p = err_from_is_err_and c.from_residual.result c.from_residual.ensures.1 in
    rw (p.1, p.2) (asleep-first g.D.Disk.told g.D.Device.failures g.D.Disk.moment g.D.Disk.since g.D.Device.is_steady g.D.Disk.stops_alone g.D.Disk.left st c.args.self.now _ c.args.session c.args.from c.args.told c.args.most _ (c.in_err-wake.ensures.wakes st k s))

pub returns : goal.returns
returns g c st k s =
    let w = c.in_ok-wake.ensures.wakes st k s in
    let m = subst (λ m. Comes g.D.Disk.told g.D.Device.failures g.D.Disk.moment g.D.Disk.since g.D.Device.is_steady g.D.Disk.stops_alone g.D.Disk.left c.args.self.now st m w.0) (sym c.self.view_is) w.2 in
    let r = reads-first g.D.Disk.told g.D.Device.failures g.D.Disk.moment g.D.Disk.since g.D.Device.is_steady g.D.Disk.stops_alone g.D.Disk.left st w.0 c.args.self.now _ c.args.session c.args.from c.args.told c.args.most _ w.1 m c.fetch_first.ensures in
    steps-first g.D.Disk.told g.D.Device.failures g.D.Disk.moment g.D.Disk.since g.D.Device.is_steady g.D.Disk.stops_alone g.D.Disk.left st c.args.session c.args.from c.args.told c.args.most _ c.args.self.now _ (r.0, r.1, subst (λ m. Comes g.D.Disk.told g.D.Device.failures g.D.Disk.moment g.D.Disk.since g.D.Device.is_steady g.D.Disk.stops_alone g.D.Disk.left c.args.self.now st m r.0) c.self.view_is r.2)
