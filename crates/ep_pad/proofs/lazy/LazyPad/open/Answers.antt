use Rattle.std.proofs.Common.{◌≡◌, ◌∙◌, Some, ap, refl, subst, sym}
use Rattle.ep_pad.specs.Lazy.{IsOpenThen, IsOpenedOn, Lazy}
use Rattle.ep_pad.proofs.lazy.LazyPad.open.Goals as goal

pub returns-in-Ok-clause-opens : goal.returns-in-Ok-clause-opens
returns-in-Ok-clause-opens g c =
    let had : c.args.self.now.disk ≡ Some c.in-Some.disk = sym (ap (λ (p : Lazy _). p.disk) c.self.view_is) ∙ (sym c.take.ensures.value ∙ c.in-Some.is) in
    let limits = ap (λ (p : Lazy _). p.limits) c.self.view_is in
    let e = c.in-Ok.ensures in
    let on : IsOpenedOn g.D.Disk.told g.D.Device.failures c.self.inside.limits c.in-Some.disk c.in-Ok.machine = record { limits = e.limits; begun = e.begun; legal = e.found; woken = e.opens } in
    subst (λ d. IsOpenThen g.D.Disk.told g.D.Device.failures d c.args.self.now (record { limits = c.self.inside.limits; disk = c.take.new.self; machine = Some c.in-Ok.machine })) (sym had)
    (limits, c.take.ensures.after, (c.in-Ok.machine, refl, subst (λ l. IsOpenedOn g.D.Disk.told g.D.Device.failures l c.in-Some.disk c.in-Ok.machine) limits on))
