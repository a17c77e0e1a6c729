use Rattle.std.proofs.Common.{◌∙◌, sym, subst, refl}
use Rattle.ep_pad_file.specs.Standing.{MayHold}
use Rattle.ep_pad_file.proofs.Telling.{holds_settled}
use Rattle.ep_pad.specs.Held.{Held}
use Rattle.ep_pad.specs.Opening.IsWoken.{Was}
use Rattle.ep_pad.specs.Standing.{Stands}
use Rattle.ep_pad.proofs.Crashing.{comes-nowhere}
use Rattle.ep_pad.proofs.Waking.{stops}
use Rattle.ep_pad.proofs.machine.PadMachine.wake.Goals as goal

pub returns-then-self-clause-wakes : goal.returns-then-self-clause-wakes
returns-then-self-clause-wakes g c st k stands =
    let s = subst (λ m. Stands g.D.Disk.told g.D.Device.failures m st) (sym c.self.view_is) stands in
    let on = c.if-self.true in
    let may = (stops g.D.Disk.told g.D.Device.failures st _ s (λ on h. holds_settled _ _ _ _ (c.self.invariant.0 on).held h)).1 in
    let now = subst (λ (m : Held g.row.D.Denot). MayHold (g.D.Disk.told m.disk) st.records st.pending) c.self.view_is may in
    (st, Was (s.is_open ∙ on) refl, comes-nowhere g.D.Disk.told g.D.Device.failures g.D.Disk.moment g.D.Disk.since g.D.Device.is_steady g.D.Disk.stops_alone g.D.Disk.left c.args.self.now st stands now (λ image here. g.met.D.Disk.only_now _ image here))

pub returns-then-self-clause-settled : goal.returns-then-self-clause-settled
returns-then-self-clause-settled g c st stands =
    let s = subst (λ m. Stands g.D.Disk.told g.D.Device.failures m st) (sym c.self.view_is) stands in
    let may = (stops g.D.Disk.told g.D.Device.failures st _ s (λ on h. holds_settled _ _ _ _ (c.self.invariant.0 on).held h)).1 in
    subst (λ (m : Held g.row.D.Denot). MayHold (g.D.Disk.told m.disk) st.records st.pending) c.self.view_is may
