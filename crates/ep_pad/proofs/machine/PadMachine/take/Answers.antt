use Rattle.std.proofs.Common.{◌∙◌, refl, sym, ap, subst, arith}
use Rattle.std.proofs.lemmas.Result.{err_from_is_err_and}
use Rattle.ep_history.specs.Entries.Answer.{CommitAnswer}
use Rattle.ep_history.specs.Entries.Entry.{Accept}
use Rattle.ep_history.proofs.Answered.{normal-edit}
use Rattle.ep_step.specs.Telling.{told_by}
use Rattle.ep_pad_file.proofs.Telling.{holds_settled}
use Rattle.ep_pad.specs.Crashes.{Comes}
use Rattle.ep_pad.specs.Held.{Held}
use Rattle.ep_pad.specs.Opening.IsWoken.{Was}
use Rattle.ep_pad.specs.Standing.{Stands}
use Rattle.ep_pad.proofs.Stepping.{comes-with, keeps, opened, unready, with-pad}
use Rattle.ep_pad.proofs.Stopping.{all-stand, found-kept, found-still, turn-refused}
use Rattle.ep_pad.proofs.machine.PadMachine.take.Goals as goal

pub returns-in_err-ready-clause-steps : goal.returns-in_err-ready-clause-steps
returns-in_err-ready-clause-steps g c before st mid w came =
    let p = err_from_is_err_and c.from_residual.result c.from_residual.ensures.1 in
    let m = subst (λ m. Comes g.D.Disk.told g.D.Device.failures g.D.Disk.moment g.D.Disk.since g.D.Device.is_steady g.D.Disk.stops_alone g.D.Disk.left before st m mid) (sym c.self.view_is) came in
    let a = c.in_err-ready.ensures.answer mid.pad (opened g.D.Disk.told g.D.Device.failures st mid _ w m.0).pad in
    rw (p.1, p.2) (unready g.D.Disk.told g.D.Device.failures g.D.Disk.moment g.D.Disk.since g.D.Device.is_steady g.D.Disk.stops_alone g.D.Disk.left st mid before _ _ _ _ w m a.0 a.1)

pub returns-clause-steps : goal.returns-clause-steps
returns-clause-steps g c before st mid w came =
    let m = subst (λ m. Comes g.D.Disk.told g.D.Device.failures g.D.Disk.moment g.D.Disk.since g.D.Device.is_steady g.D.Disk.stops_alone g.D.Disk.left before st m mid) (sym c.self.view_is) came in
    let a = c.in_ok-ready.ensures.answer mid.pad (opened g.D.Disk.told g.D.Device.failures st mid _ w m.0).pad in
    let now = comes-with g.D.Disk.told g.D.Device.failures g.D.Disk.moment g.D.Disk.since g.D.Device.is_steady g.D.Disk.stops_alone g.D.Disk.left st mid before _ _ mid.pad w m a.0 refl in
    keeps g.D.Disk.told g.D.Device.failures g.D.Disk.moment g.D.Disk.since g.D.Device.is_steady g.D.Disk.stops_alone g.D.Disk.left st mid before _ _ _ _ c.in_ok-ready.ready _ w now a.1 (normal-edit _ c.ops-normal.ensures.normal) (c.keep.ensures.keeps mid now.0)

pub returns-in_err-ready-clause-stopped : goal.returns-in_err-ready-clause-stopped
returns-in_err-ready-clause-stopped g c st calls k stands alone left asked d image told asks =
    let p = err_from_is_err_and c.from_residual.result c.from_residual.ensures.1 in
    let s = subst (λ m. Stands g.D.Disk.told g.D.Device.failures m st) (sym c.self.view_is) stands in
    let on = ap (λ (m : Held g.row.D.Denot). m.is_open) c.self.view_is ∙ c.requires in
    let o = s.open_has on in
    let counted = s.faults in
    let a = c.in_err-ready.ensures.answer st.pad o.pad in
    rw (p.1, p.2) (found-still _ _ image st (Accept c.args.session c.args.base c.args.change c.args.now) _ _ (record { kept = k; on = s.is_open ∙ on; limits = stands.limits; few = omega (arith, counted) })
    (turn-refused st (Accept c.args.session c.args.base c.args.change c.args.now) _ _ refl a.1) (all-stand _ st.records (holds_settled _ _ _ st.records (c.self.invariant.0 on).held o.holds) asked d image told asks))

pub returns-clause-stopped : goal.returns-clause-stopped
returns-clause-stopped g c st calls k stands alone left asked d image told asks =
    let s = subst (λ m. Stands g.D.Disk.told g.D.Device.failures m st) (sym c.self.view_is) stands in
    let on = ap (λ (m : Held g.row.D.Denot). m.is_open) c.self.view_is ∙ c.requires in
    let o = s.open_has on in
    let counted = s.faults in
    let later = c.keep.ensures.later in
    let a = c.in_ok-ready.ensures.answer st.pad o.pad in
    let now = with-pad g.D.Disk.told g.D.Device.failures st st _ _ st.pad (Was (s.is_open ∙ on) refl) s a.0 refl in
    let one = ap (λ (m : Held g.row.D.Denot). g.D.Disk.stops_alone m.disk) c.self.view_is ∙ alone in
    let some = ap (λ (m : Held g.row.D.Denot). g.D.Disk.left m.disk) c.self.view_is ∙ left in
    found-kept _ _ _ asked d image st (Accept c.args.session c.args.base c.args.change c.args.now) (λ x. CommitAnswer (told_by x)) c.in_ok-ready.ready _ calls (record { kept = k; on = s.is_open ∙ on; limits = stands.limits; few = omega (arith, counted, later) })
    a.1 (normal-edit _ c.ops-normal.ensures.normal) told asks (c.keep.ensures.stopped st calls now one some)
