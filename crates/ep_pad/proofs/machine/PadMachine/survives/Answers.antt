use Rattle.std.proofs.Common.{sym, subst}
use Rattle.ep_outside.specs.Disk.{IsImage}
use Rattle.ep_pad_file.proofs.Left.{left_stands}
use Rattle.ep_pad_file.proofs.Telling.{holds_settled, image_left, left_tells}
use Rattle.ep_pad.specs.Held.{Held}
use Rattle.ep_pad.specs.Standing.{Stands}
use Rattle.ep_pad.proofs.Waking.{stops}
use Rattle.ep_pad.proofs.machine.PadMachine.survives.Goals as goal

pub returns : goal.returns
returns g c st stands image is =
    let s = subst (λ m. Stands g.D.Disk.told g.D.Device.failures m st) (sym c.self.view_is) stands in
    let left = (stops g.D.Disk.told g.D.Device.failures st _ s (λ on h. holds_settled _ _ _ _ (c.self.invariant.0 on).held h)).1 in
    let t = left_tells _ st.records st.pending left in
    left_stands st.records st.pending image (image_left _ t.0 st.records st.pending t.1 t.2 image
    (subst (λ (m : Held g.row.D.Denot). IsImage (g.D.Disk.told m.disk) image) (sym c.self.view_is) is))
