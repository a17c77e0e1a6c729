use Rattle.std.proofs.Common.{◌∙◌, ap, subst, sym, arith, vec_len}
use Rattle.std.specs.Prelude.{IfOk}
use Rattle.ep_outside.specs.declared.limits.Limits.{Limits}
use Rattle.ep_house.specs.Register.{on_disk, in_cell, Comes, found_in}
use Rattle.ep_house.specs.Named.{IsWithin, MayWait, cells_of, shared_id, waits_of, wait_of}
use Rattle.ep_pad.specs.Halls.{want}
use Rattle.ep_house.specs.Registry.{register}
use Rattle.ep_cell.specs.Passes.{id_of}
use Rattle.ep_house.proofs.Finding.{length-cells}
use Rattle.ep_house.proofs.Placing.{step_with}
use Rattle.ep_house.proofs.registry.Registry.open_new.Goals as goal

pub put-requires-clause-below : goal.put-requires-clause-below
put-requires-clause-below g c = omega (arith, c.requires.room, length-cells c.args.self.now.cells.items, ap (λ v. vec_len v) c.waiting.ensures.cells, ap (λ (l : Limits). l.pads) c.waiting.ensures.limits, c.reserve.ensures.len, c.args.self.now.cells.ok)

pub share-requires-clause-below : goal.share-requires-clause-below
share-requires-clause-below g c = omega (arith, c.requires.room, length-cells c.args.self.now.cells.items, ap (λ v. vec_len v) c.waiting.ensures.cells, ap (λ (l : Limits). l.pads) c.waiting.ensures.limits, c.reserve.ensures.len, c.args.self.now.cells.ok)

pub place-requires-clause-below : goal.place-requires-clause-below
place-requires-clause-below g c = omega (arith, c.requires.room, length-cells c.args.self.now.cells.items, ap (λ v. vec_len v) c.waiting.ensures.cells, ap (λ (l : Limits). l.pads) c.waiting.ensures.limits, c.reserve.ensures.len, c.args.self.now.cells.ok)

pub share-requires-clause-within : goal.share-requires-clause-within
share-requires-clause-within g c = subst (MayWait g.P.PadOver.limits_of c.args.self.now.limits) c.in-Ok-Cell.field-0-is c.in-Ok-Cell.ensures.within ∙ sym c.waiting.ensures.limits

pub place-requires-clause-within : goal.place-requires-clause-within
place-requires-clause-within g c = subst (MayWait g.P.PadOver.limits_of c.args.self.now.limits) c.in-Ok-Shared.field-0-is c.in-Ok-Shared.ensures.within ∙ sym c.waiting.ensures.limits

pub returns-in-Ok-Cell-clause-within : goal.returns-in-Ok-Cell-clause-within
returns-in-Ok-Cell-clause-within g c = subst (λ l. IfOk c.share.result (IsWithin g.P.PadOver.limits_of l)) c.waiting.ensures.limits c.share.ensures.within

pub returns-in-Ok-Shared-clause-within : goal.returns-in-Ok-Shared-clause-within
returns-in-Ok-Shared-clause-within g c = subst (λ l. IfOk c.place.result (IsWithin g.P.PadOver.limits_of l)) c.waiting.ensures.limits c.place.ensures.within

pub returns-in-Ok-Disk-clause-within : goal.returns-in-Ok-Disk-clause-within
returns-in-Ok-Disk-clause-within g c = subst (λ l. IfOk c.put.result (IsWithin g.P.PadOver.limits_of l)) c.waiting.ensures.limits c.put.ensures.within

pub returns-in-Ok-Cell-clause-step : goal.returns-in-Ok-Cell-clause-step
returns-in-Ok-Cell-clause-step g c =
    let w = c.waiting.ensures in
    let ok = c.in-Ok-Cell.ensures in
    step_with g.H.Device.failures g.H.Shelf.names g.H.Shelf.told g.H.D.Device.failures g.H.D.Disk.told (register c.args.self.now) _ _ _ (want c.args.name c.args.makes) (in_cell (id_of c.in-Ok-Cell.cell)) _
    (λ j. record { limit = c.args.self.now.limits.pads; shelf = c.args.self.now.shelf; cells = cells_of (c.reserve.ensures.items j); waiting = waits_of wait_of c.args.self.now.kept.items })
    c.requires w.keeps (ap (λ v. cells_of v.items) w.cells) ok.taken (subst (λ x. Comes g.H.Shelf.told g.H.D.Device.failures g.H.D.Disk.told (found_in (register c.args.self.now).waiting c.args.name) c.args.self.now.shelf c.args.name (wait_of x)) c.in-Ok-Cell.field-0-is ok.comes) c.share.ensures.places

pub returns-in-Ok-Shared-clause-step : goal.returns-in-Ok-Shared-clause-step
returns-in-Ok-Shared-clause-step g c =
    let w = c.waiting.ensures in
    let ok = c.in-Ok-Shared.ensures in
    step_with g.H.Device.failures g.H.Shelf.names g.H.Shelf.told g.H.D.Device.failures g.H.D.Disk.told (register c.args.self.now) _ _ _ (want c.args.name c.args.makes) (in_cell (shared_id c.in-Ok-Shared.cell)) _
    (λ j. record { limit = c.args.self.now.limits.pads; shelf = c.args.self.now.shelf; cells = cells_of (c.reserve.ensures.items j); waiting = waits_of wait_of c.args.self.now.kept.items })
    c.requires w.keeps (ap (λ v. cells_of v.items) w.cells) ok.taken (subst (λ x. Comes g.H.Shelf.told g.H.D.Device.failures g.H.D.Disk.told (found_in (register c.args.self.now).waiting c.args.name) c.args.self.now.shelf c.args.name (wait_of x)) c.in-Ok-Shared.field-0-is ok.comes) c.place.ensures.places

pub returns-in-Ok-Disk-clause-step : goal.returns-in-Ok-Disk-clause-step
returns-in-Ok-Disk-clause-step g c =
    let w = c.waiting.ensures in
    let ok = c.in-Ok-Disk.ensures in
    step_with g.H.Device.failures g.H.Shelf.names g.H.Shelf.told g.H.D.Device.failures g.H.D.Disk.told (register c.args.self.now) _ _ _ (want c.args.name c.args.makes) (on_disk c.in-Ok-Disk.disk) _
    (λ j. record { limit = c.args.self.now.limits.pads; shelf = c.args.self.now.shelf; cells = cells_of (c.reserve.ensures.items j); waiting = waits_of wait_of c.args.self.now.kept.items })
    c.requires w.keeps (ap (λ v. cells_of v.items) w.cells) ok.taken (subst (λ x. Comes g.H.Shelf.told g.H.D.Device.failures g.H.D.Disk.told (found_in (register c.args.self.now).waiting c.args.name) c.args.self.now.shelf c.args.name (wait_of x)) c.in-Ok-Disk.field-0-is ok.comes) c.put.ensures.places
