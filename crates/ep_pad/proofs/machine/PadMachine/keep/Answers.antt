use Rattle.std.proofs.Common.{inl, inr, ⊎_elim, [], ◌∙◌, sym, ap, subst, refl, arith}
use Rattle.std.proofs.lemmas.Result.{err_from_is_err_and}
use Rattle.ep_outside.specs.declared.limits.Limits.{Limits}
use Rattle.ep_history.specs.Machine.{longest_with}
use Rattle.ep_pad_file.specs.Standing.{Holds, MayHold}
use Rattle.ep_pad_file.proofs.Telling.{holds_settled}
use Rattle.ep_pad_state.specs.Held.{IsPad}
use Rattle.ep_pad_state.specs.Making.{after, change_of}
use Rattle.ep_pad.specs.Held.{Held}
use Rattle.ep_pad.specs.Keeping.{IsKept, IsNotKept}
use Rattle.ep_pad.specs.Keeping.IsStoppedAt.{IsUnmade, IsMade}
use Rattle.ep_pad.specs.Standing.{Stands}
use Rattle.ep_pad.proofs.Beginning.{still-stands, stands-only, then-appends}
use Rattle.ep_pad.proofs.Causes.{append-fault}
use Rattle.ep_pad.proofs.Crashing.{comes-from}
use Rattle.ep_pad.proofs.Kept.{is-kept, not-prepared, store-failed}
use Rattle.ep_pad.proofs.Rereading.{marks-on}
use Rattle.ep_pad.proofs.Stepping.{after-limits}
use Rattle.ep_pad.proofs.Stopping.{all-stand}
use Rattle.ep_pad.proofs.machine.PadMachine.keep.Goals as goal

pub returns-in_err-prepared-clause-keeps : goal.returns-in_err-prepared-clause-keeps
returns-in_err-prepared-clause-keeps g c st stands =
    let p = err_from_is_err_and c.from_residual.result c.from_residual.ensures.1 in
    let s = subst (λ m. Stands g.D.Disk.told g.D.Device.failures m st) (sym c.self.view_is) stands in
    let on = ap (λ (m : Held g.row.D.Denot). m.is_open) c.self.view_is ∙ c.requires.open in
    let most = longest_with c.self.inside.limits c.args.ready.record in
    let within = ap (λ (l : Limits). longest_with l c.args.ready.record) s.limits in
    let o = s.open_has on in
    let rest = holds_settled _ _ _ st.records (c.self.invariant.0 on).held o.holds in
    let run = stands-only g.D.Disk.told g.D.Device.failures g.D.Disk.moment g.D.Disk.since c.self.inside.limits st.records _ _ rest c.in_err-prepared.ensures.images in
    rw (p.1, p.2) (comes-from g.D.Disk.told g.D.Device.failures g.D.Disk.moment g.D.Disk.since g.D.Device.is_steady g.D.Disk.stops_alone g.D.Disk.left (λ new. IsNotKept st c.args.ready.record _ new) _ _ _ st c.self.view_is
    (not-prepared g.D.Disk.told g.D.Device.failures g.D.Disk.moment g.D.Disk.since g.D.Device.is_steady g.D.Disk.stops_alone g.D.Disk.left st _ _ _ _ _ s on on refl refl c.in_err-prepared.ensures.told c.in_err-prepared.ensures.failures
    (λ h. c.in_err-prepared.ensures.machine st most h within) (c.in_err-prepared.ensures.refused most c.longest_file_with-longest.ensures.value) run c.in_err-prepared.ensures.marks))

pub returns-in-Err-clause-keeps : goal.returns-in-Err-clause-keeps
returns-in-Err-clause-keeps g c st stands =
    let s = subst (λ m. Stands g.D.Disk.told g.D.Device.failures m st) (sym c.self.view_is) stands in
    let on = ap (λ (m : Held g.row.D.Denot). m.is_open) c.self.view_is ∙ c.requires.open in
    let most = longest_with c.self.inside.limits c.args.ready.record in
    let within = ap (λ (l : Limits). longest_with l c.args.ready.record) s.limits in
    let o = s.open_has on in
    let held = subst (λ t. Holds t st.records) (sym c.in_ok-prepared.ensures.told) o.holds in
    let left = (c.in-Err.ensures.left st.records held).1 in
    let rest = holds_settled _ _ _ st.records (c.self.invariant.0 on).held o.holds in
    let run = then-appends g.D.Disk.told g.D.Device.failures g.D.Disk.moment g.D.Disk.since c.self.inside.limits st.records _ _ _ _ (stands-only g.D.Disk.told g.D.Device.failures g.D.Disk.moment g.D.Disk.since c.self.inside.limits st.records _ _ rest c.in_ok-prepared.ensures.images)
    (rw (sym c.in_ok-prepared.ensures.prepared) (c.in-Err.ensures.any_moment st.records held)) in
    comes-from g.D.Disk.told g.D.Device.failures g.D.Disk.moment g.D.Disk.since g.D.Device.is_steady g.D.Disk.stops_alone g.D.Disk.left (λ new. IsNotKept st c.args.ready.record _ new) _ _ _ st c.self.view_is
    (store-failed g.D.Disk.told g.D.Device.failures g.D.Disk.moment g.D.Disk.since g.D.Device.is_steady g.D.Disk.stops_alone g.D.Disk.left st _ _ _ _ _ _ s refl refl c.in_ok-prepared.ensures.failures c.in-Err.ensures.later
    (c.in_ok-prepared.ensures.machine st most o.holds within) (c.in_ok-prepared.ensures.fits most c.longest_file_with-longest.ensures.value) (append-fault _ _ _ _ c.in-Err.ensures.refused)
    (rw (sym c.in_ok-prepared.ensures.prepared) left) run (marks-on c.in_ok-prepared.ensures.marks c.in-Err.ensures.marks))

pub returns-clause-keeps : goal.returns-clause-keeps
returns-clause-keeps g c st stands =
    let s = subst (λ m. Stands g.D.Disk.told g.D.Device.failures m st) (sym c.self.view_is) stands in
    let on = ap (λ (m : Held g.row.D.Denot). m.is_open) c.self.view_is ∙ c.requires.open in
    let most = longest_with c.self.inside.limits c.args.ready.record in
    let within = ap (λ (l : Limits). longest_with l c.args.ready.record) s.limits in
    let o = s.open_has on in
    let held = subst (λ t. Holds t st.records) (sym c.in_ok-prepared.ensures.told) o.holds in
    let still = c.in_ok-prepared.ensures.failures in
    let more = c.in_default.ensures.later in
    let rest = holds_settled _ _ _ st.records (c.self.invariant.0 on).held o.holds in
    let run = then-appends g.D.Disk.told g.D.Device.failures g.D.Disk.moment g.D.Disk.since c.self.inside.limits st.records _ _ _ _ (stands-only g.D.Disk.told g.D.Device.failures g.D.Disk.moment g.D.Disk.since c.self.inside.limits st.records _ _ rest c.in_ok-prepared.ensures.images)
    (rw (sym c.in_ok-prepared.ensures.prepared) (c.in_default.ensures.any_moment st.records held)) in (
      refl,
      comes-from g.D.Disk.told g.D.Device.failures g.D.Disk.moment g.D.Disk.since g.D.Device.is_steady g.D.Disk.stops_alone g.D.Disk.left (λ new. IsKept st c.args.ready.record (after (change_of c.args.ready) st.pad) new) _ _ _ st c.self.view_is
          (is-kept g.D.Disk.told g.D.Device.failures g.D.Disk.moment g.D.Disk.since g.D.Device.is_steady g.D.Disk.stops_alone g.D.Disk.left st _ _ _ _ _ s on on refl (omega (arith, still, more)) (c.in_ok-prepared.ensures.machine st most o.holds within) (c.in_ok-prepared.ensures.fits most c.longest_file_with-longest.ensures.value)
          (rw (sym c.in_ok-prepared.ensures.prepared) (c.in_default.ensures.adds st.records held)) (subst (λ x. IsPad c.commit.new.self (after x st.pad)) c.fill.ensures (c.commit.ensures st.pad o.pad)) (after-limits (change_of c.args.ready) st.pad)
          run (marks-on c.in_ok-prepared.ensures.marks c.in_default.ensures.marks)),
    )

pub returns-in_err-prepared-clause-stopped : goal.returns-in_err-prepared-clause-stopped
returns-in_err-prepared-clause-stopped g c st calls stands alone left =
    let p = err_from_is_err_and c.from_residual.result c.from_residual.ensures.1 in
    let s = subst (λ m. Stands g.D.Disk.told g.D.Device.failures m st) (sym c.self.view_is) stands in
    let on = ap (λ (m : Held g.row.D.Denot). m.is_open) c.self.view_is ∙ c.requires.open in
    let most = longest_with c.self.inside.limits c.args.ready.record in
    let within = ap (λ (l : Limits). longest_with l c.args.ready.record) s.limits in
    let o = s.open_has on in
    let held = subst (λ t. Holds t st.records) (sym c.in_err-prepared.ensures.told) o.holds in
    let rest = holds_settled _ _ _ st.records (c.self.invariant.0 on).held o.holds in
    let all = all-stand _ st.records (subst (λ t. MayHold t st.records []) (sym c.in_err-prepared.ensures.told) rest) in
    let same = c.in_err-prepared.ensures.machine st most o.holds within in
    rw (p.1, p.2) (IsUnmade (⊎_elim (λ lacks. inl lacks) (λ full. inr (sym same ∙ full)) (c.in_err-prepared.ensures.refused most c.longest_file_with-longest.ensures.value)) all)

pub returns-in-Err-clause-stopped : goal.returns-in-Err-clause-stopped
returns-in-Err-clause-stopped g c st calls stands alone left =
    let s = subst (λ m. Stands g.D.Disk.told g.D.Device.failures m st) (sym c.self.view_is) stands in
    let on = ap (λ (m : Held g.row.D.Denot). m.is_open) c.self.view_is ∙ c.requires.open in
    let most = longest_with c.self.inside.limits c.args.ready.record in
    let within = ap (λ (l : Limits). longest_with l c.args.ready.record) s.limits in
    let o = s.open_has on in
    let held = subst (λ t. Holds t st.records) (sym c.in_ok-prepared.ensures.told) o.holds in
    let one = c.in_ok-prepared.ensures.marks.alone ∙ ap (λ (m : Held g.row.D.Denot). g.D.Disk.stops_alone m.disk) c.self.view_is ∙ alone in
    let some = c.in_ok-prepared.ensures.stop ∙ ap (λ (m : Held g.row.D.Denot). g.D.Disk.left m.disk) c.self.view_is ∙ left in
    let made = c.in-Err.ensures.stopped st.records calls held one some in
    let fits = sym (c.in_ok-prepared.ensures.machine st most o.holds within) ∙ (c.in_ok-prepared.ensures.fits most c.longest_file_with-longest.ensures.value) in
    let fault = append-fault _ _ _ _ c.in-Err.ensures.refused in
    IsMade fault.0 fault.1 fits (rw (sym c.in_ok-prepared.ensures.prepared) made)

pub returns-clause-stopped : goal.returns-clause-stopped
returns-clause-stopped g c st calls stands alone left =
    let s = subst (λ m. Stands g.D.Disk.told g.D.Device.failures m st) (sym c.self.view_is) stands in
    let on = ap (λ (m : Held g.row.D.Denot). m.is_open) c.self.view_is ∙ c.requires.open in
    let most = longest_with c.self.inside.limits c.args.ready.record in
    let within = ap (λ (l : Limits). longest_with l c.args.ready.record) s.limits in
    let o = s.open_has on in
    let held = subst (λ t. Holds t st.records) (sym c.in_ok-prepared.ensures.told) o.holds in
    let one = c.in_ok-prepared.ensures.marks.alone ∙ ap (λ (m : Held g.row.D.Denot). g.D.Disk.stops_alone m.disk) c.self.view_is ∙ alone in
    let some = c.in_ok-prepared.ensures.stop ∙ ap (λ (m : Held g.row.D.Denot). g.D.Disk.left m.disk) c.self.view_is ∙ left in
    let made = c.in_default.ensures.stopped st.records calls held one some in
    let fits = sym (c.in_ok-prepared.ensures.machine st most o.holds within) ∙ (c.in_ok-prepared.ensures.fits most c.longest_file_with-longest.ensures.value) in
    (fits, rw (sym c.in_ok-prepared.ensures.prepared) made)
