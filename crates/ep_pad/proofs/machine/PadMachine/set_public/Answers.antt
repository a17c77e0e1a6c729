use Rattle.std.proofs.Common.{refl, subst, sym}
use Rattle.std.proofs.lemmas.Result.{err_from_is_err_and}
use Rattle.ep_pad.specs.Crashes.{Comes}
use Rattle.ep_pad.proofs.Crashing.{steps-over}
use Rattle.ep_pad.proofs.Stepping.{asleep, keeps, opened, unready}
use Rattle.ep_pad.proofs.machine.PadMachine.set_public.Goals as goal

pub returns-in_err-wake-clause-steps : goal.returns-in_err-wake-clause-steps
returns-in_err-wake-clause-steps g c st k s =
    let p = err_from_is_err_and c.from_residual.result c.from_residual.ensures.1 in
    rw (p.1, p.2) (steps-over g.D.Disk.told g.D.Device.failures g.D.Disk.moment g.D.Disk.since g.D.Device.is_steady g.D.Disk.stops_alone g.D.Disk.left st _ _ c.args.self.now _ (asleep g.D.Disk.told g.D.Device.failures g.D.Disk.moment g.D.Disk.since g.D.Device.is_steady g.D.Disk.stops_alone g.D.Disk.left st c.args.self.now _ _ _ (c.in_err-wake.ensures.wakes st k s)))

pub returns-in_err-ready-clause-steps : goal.returns-in_err-ready-clause-steps
returns-in_err-ready-clause-steps g c st k s =
    let p = err_from_is_err_and c.from_residual-in_err-ready.result c.from_residual-in_err-ready.ensures.1 in
    let w = c.in_ok-wake.ensures.wakes st k s in
    let m = subst (λ m. Comes g.D.Disk.told g.D.Device.failures g.D.Disk.moment g.D.Disk.since g.D.Device.is_steady g.D.Disk.stops_alone g.D.Disk.left c.args.self.now st m w.0) (sym c.self.view_is) w.2 in
    let a = c.in_err-ready.ensures.answer w.0.pad (opened g.D.Disk.told g.D.Device.failures st w.0 _ w.1 m.0).pad in
    let r = unready g.D.Disk.told g.D.Device.failures g.D.Disk.moment g.D.Disk.since g.D.Device.is_steady g.D.Disk.stops_alone g.D.Disk.left st w.0 c.args.self.now _ _ _ _ w.1 m a.0 a.1 in
    rw (p.1, p.2) (steps-over g.D.Disk.told g.D.Device.failures g.D.Disk.moment g.D.Disk.since g.D.Device.is_steady g.D.Disk.stops_alone g.D.Disk.left st _ _ c.args.self.now _ (r.0, r.1, subst (λ m. Comes g.D.Disk.told g.D.Device.failures g.D.Disk.moment g.D.Disk.since g.D.Device.is_steady g.D.Disk.stops_alone g.D.Disk.left c.args.self.now st m r.0) c.self.view_is r.2))

pub returns-clause-steps : goal.returns-clause-steps
returns-clause-steps g c st k s =
    let w = c.in_ok-wake.ensures.wakes st k s in
    let m = subst (λ m. Comes g.D.Disk.told g.D.Device.failures g.D.Disk.moment g.D.Disk.since g.D.Device.is_steady g.D.Disk.stops_alone g.D.Disk.left c.args.self.now st m w.0) (sym c.self.view_is) w.2 in
    let a = c.in_ok-ready.ensures.answer w.0.pad (opened g.D.Disk.told g.D.Device.failures st w.0 _ w.1 m.0).pad in
    steps-over g.D.Disk.told g.D.Device.failures g.D.Disk.moment g.D.Disk.since g.D.Device.is_steady g.D.Disk.stops_alone g.D.Disk.left st _ _ c.args.self.now _ (keeps g.D.Disk.told g.D.Device.failures g.D.Disk.moment g.D.Disk.since g.D.Device.is_steady g.D.Disk.stops_alone g.D.Disk.left st w.0 c.args.self.now _ _ _ _ c.in_ok-ready.ready _ w.1 w.2 a.1 refl (c.keep.ensures.keeps w.0 w.2.0))
