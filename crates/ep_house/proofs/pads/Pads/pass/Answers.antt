use Rattle.std.proofs.Common.{ℕ, List, ◌≡◌, ◌∙◌, ap, sym, subst, refl, inl, Ok, Err}
use Rattle.std.specs.Prelude.{IfOk}
use Rattle.std.specs.Arc.{arc_value}
use Rattle.ep_cell.specs.History.{pairs}
use Rattle.ep_cell.specs.Passes.{first, first_of, id_of, known, seen}
use Rattle.ep_house.specs.Register.{IsLegal, all_told}
use Rattle.ep_house.specs.Named.{IsWithin, shared_id}
use Rattle.ep_house.specs.Registry.{register}
use Rattle.ep_pad.specs.Halls.{Notes, cell_in, want}
use Rattle.ep_house.proofs.Halls.{answers_told, answered, hall_leads, holds_last, notes, told, unmade}
use Rattle.ep_house.proofs.pads.Pads.pass.Goals as goal

pub returns-in-Err-clause-noted : goal.returns-in-Err-clause-noted
returns-in-Err-clause-noted g c =
    let m = c.meet.ensures.meets in
    let u = known c.args.hall.now.pass in
    let v = known c.meet.new.one in
    let w = known c.call.new.pass in
    let asked = want c.in-Ok-Ok.asked c.args.makes in
    let Legal = IsLegal g.H.Device.failures g.H.Shelf.names g.H.Shelf.told g.H.D.Device.failures g.H.D.Disk.told c.args.self.now.limits.pads in
    let within = ap (λ r. r.limits.pads) (c.call.ensures.first ∙ (c.meet.ensures.first.0 ∙ c.requires.of.1)) ∙ ap (λ l. l.pads) c.args.self.now.begun in
    inl (subst (λ (e : List ℕ). Notes Legal (told shared_id u) (want e c.args.makes) (Err c.in-Err.error) (told shared_id w)) c.in-Ok-Ok.ensures'
    (notes shared_id u v w asked (Err c.in-Err.error) c.in-Err.ensures.makes Legal w refl refl m.begins_one m.number_one m.own_one m.floor_one (register (first c.call.new.pass), within, c.in-Err.ensures.legal.0)))

pub returns-clause-noted : goal.returns-clause-noted
returns-clause-noted g c =
    let m = c.meet.ensures.meets in
    let n = c.meet-2.ensures.meets in
    let u = known c.args.hall.now.pass in
    let v = known c.meet.new.one in
    let w = known c.call.new.pass in
    let asked = want c.in-Ok-Ok.asked c.args.makes in
    let Legal = IsLegal g.H.Device.failures g.H.Shelf.names g.H.Shelf.told g.H.D.Device.failures g.H.D.Disk.told c.args.self.now.limits.pads in
    let within = ap (λ r. r.limits.pads) (c.call.ensures.first ∙ (c.meet.ensures.first.0 ∙ c.requires.of.1)) ∙ ap (λ l. l.pads) c.args.self.now.begun in
    let lead = n.same ∙ (n.longer ∙ hall_leads shared_id u v w asked (Ok c.in-Ok.cell) c.in-Ok.ensures.makes (seen c.meet.new.other) m.same) in
    inl (subst (λ (e : List ℕ). Notes Legal (told shared_id u) (want e c.args.makes) (Ok (shared_id c.in-Ok.cell)) (told shared_id (known c.meet-2.new.other))) c.in-Ok-Ok.ensures'
    (notes shared_id u v w asked (Ok c.in-Ok.cell) c.in-Ok.ensures.makes Legal (known c.meet-2.new.other) lead n.number_other m.begins_one m.number_one m.own_one m.floor_one (register (first c.call.new.pass), within, c.in-Ok.ensures.legal.0)))

pub returns-clause-limits : goal.returns-clause-limits
returns-clause-limits g c =
    let v = known c.meet.new.one in
    let w = known c.call.new.pass in
    let of = first c.call.new.pass in
    let within : of.limits ≡ c.args.self.now.limits = ap (λ r. r.limits) (c.call.ensures.first ∙ (c.meet.ensures.first.0 ∙ c.requires.of.1)) ∙ c.args.self.now.begun in
    let last : g.P.PadOver.limits_of (first_of (arc_value c.in-Ok.cell)) ≡ of.limits = holds_last (λ x. IfOk x.1 (IsWithin g.P.PadOver.limits_of of.limits)) v w (want c.in-Ok-Ok.asked c.args.makes) (Ok c.in-Ok.cell) c.in-Ok.ensures.makes c.in-Ok.ensures.legal.1 in
    ap g.P.PadOver.limits_of (c.new_pass-pass.ensures.first ∙ ap first_of c.deref.ensures) ∙ (last ∙ within)

pub returns-clause-one : goal.returns-clause-one
returns-clause-one g c =
    let m = c.meet.ensures.meets in
    let n = c.meet-2.ensures.meets in
    let u = known c.args.hall.now.pass in
    let v = known c.meet.new.one in
    let w = known c.call.new.pass in
    let asked = want c.in-Ok-Ok.asked c.args.makes in
    let lead = n.same ∙ (n.longer ∙ hall_leads shared_id u v w asked (Ok c.in-Ok.cell) c.in-Ok.ensures.makes (seen c.meet.new.other) m.same) in
    ap (λ l. cell_in l c.args.pad.now) (answers_told shared_id (seen c.meet-2.new.other))
    ∙ (ap (λ l. cell_in (all_told shared_id (pairs l)) c.args.pad.now) lead
    ∙ (ap (cell_in (all_told shared_id (pairs w.seen))) (sym c.in-Ok-Ok.ensures')
    ∙ answered shared_id g.H.Device.failures g.H.Shelf.names g.H.Shelf.told g.H.D.Device.failures g.H.D.Disk.told (register (first c.call.new.pass)) v w asked c.in-Ok.cell c.in-Ok.ensures.makes c.in-Ok.ensures.legal.0))

pub invariant_of-result : goal.invariant_of-result
invariant_of-result g c =
    let m = c.meet.ensures.meets in
    let n = c.meet-2.ensures.meets in
    let u = known c.args.hall.now.pass in
    let v = known c.meet.new.one in
    let w = known c.call.new.pass in
    let asked = want c.in-Ok-Ok.asked c.args.makes in
    let lead = n.longer ∙ hall_leads shared_id u v w asked (Ok c.in-Ok.cell) c.in-Ok.ensures.makes (seen c.meet.new.other) m.same in
    record {
      same = (c.new_pass-pass.ensures.of ∙ ap id_of c.deref.ensures, c.new_pass-pass.ensures.first ∙ ap first_of c.deref.ensures);
      found = ap (λ l. cell_in (all_told shared_id (pairs l)) c.in-Ok-Ok.name) lead
          ∙ (ap (cell_in (all_told shared_id (pairs w.seen))) (c.in-Ok-Ok.ensures ∙ sym c.in-Ok-Ok.ensures')
          ∙ answered shared_id g.H.Device.failures g.H.Shelf.names g.H.Shelf.told g.H.D.Device.failures g.H.D.Disk.told (register (first c.call.new.pass)) v w asked c.in-Ok.cell c.in-Ok.ensures.makes c.in-Ok.ensures.legal.0);
    }

pub returns-in-Err-clause-unmade : goal.returns-in-Err-clause-unmade
returns-in-Err-clause-unmade g c = λ is.
    let v = known c.meet.new.one in
    let w = known c.call.new.pass in
    let asked = want c.in-Ok-Ok.asked c.args.makes in
    ap (λ l. cell_in l c.args.pad.now) (answers_told shared_id (seen c.call.new.pass))
    ∙ (ap (cell_in (all_told shared_id (pairs w.seen))) (sym c.in-Ok-Ok.ensures')
    ∙ unmade shared_id g.H.Device.failures g.H.Shelf.names g.H.Shelf.told g.H.D.Device.failures g.H.D.Disk.told (register (first c.call.new.pass)) v w asked (Err c.in-Err.error) c.in-Err.ensures.makes c.in-Err.ensures.legal.0 (ap Err is))
