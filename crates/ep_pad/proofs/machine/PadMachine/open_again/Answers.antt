use Rattle.std.proofs.Common.{◌∙◌, ap, sym, subst, refl}
use Rattle.std.proofs.lemmas.Result.{err_from_is_err_and}
use Rattle.ep_outside.proofs.Moments.{weaker}
use Rattle.ep_history.specs.Machine.{settled}
use Rattle.ep_pad_file.specs.Standing.{IsOldOrMore}
use Rattle.ep_pad_file.proofs.Telling.{holds_settled}
use Rattle.ep_pad.specs.Crashes.{MayRemain}
use Rattle.ep_pad.specs.Held.{Held}
use Rattle.ep_pad.specs.Opening.{IsWoken, Sleeps}
use Rattle.ep_pad.specs.Standing.{Stands}
use Rattle.ep_pad.proofs.Causes.{open-fault}
use Rattle.ep_pad.proofs.Crashing.{both, comes-from, left-old-or-more}
use Rattle.ep_pad.proofs.Rereading.{marks-on}
use Rattle.ep_pad.proofs.Waking.{was-kept, legal-found, settled-told, shut-of, stands-shut, stops, unbegun, unread, woken}
use Rattle.ep_pad.proofs.machine.PadMachine.open_again.Goals as goal

pub returns-in_err-reopen-clause-wakes : goal.returns-in_err-reopen-clause-wakes
returns-in_err-reopen-clause-wakes g c st k stands =
    let p = err_from_is_err_and c.from_residual.result c.from_residual.ensures.1 in
    let s = subst (λ m. Stands g.D.Disk.told g.D.Device.failures m st) (sym c.self.view_is) stands in
    let off = ap (λ (m : Held g.row.D.Denot). m.is_open) c.self.view_is ∙ c.requires in
    let may = s.closed_has off in
    let left = c.in_err-reopen.ensures.left st.records st.pending may in
    let fault = open-fault _ _ _ _ _ c.in_err-reopen.ensures.refused (c.in_err-reopen.ensures.own_left st.records st.pending may) in
    let u = stands-shut g.D.Disk.told g.D.Device.failures st _ _ (IsOldOrMore st.records st.pending) off
    (unread _ _ _ _ (IsOldOrMore st.records st.pending) st _ (shut-of g.D.Disk.told g.D.Device.failures st _ s off) c.in_err-reopen.ensures.later fault left.1 (λ image h. h)) in
    rw (p.1, p.2) (comes-from g.D.Disk.told g.D.Device.failures g.D.Disk.moment g.D.Disk.since g.D.Device.is_steady g.D.Disk.stops_alone g.D.Disk.left (λ new. Sleeps st _ new) _ _ _ st c.self.view_is
    (u.0, u.1, (u.2, weaker g.D.Disk.moment g.D.Disk.since _ _ (IsOldOrMore st.records st.pending) (MayRemain st u.0) u.3 (left-old-or-more g.D.Disk.moment g.D.Disk.since _ _ st.records st.pending left.0), c.in_err-reopen.ensures.marks)))

pub returns-in_err-self-inside-clause-wakes : goal.returns-in_err-self-inside-clause-wakes
returns-in_err-self-inside-clause-wakes g c st k stands =
    let p = err_from_is_err_and c.from_residual-in_err-self-inside.result c.from_residual-in_err-self-inside.ensures.1 in
    let s = subst (λ m. Stands g.D.Disk.told g.D.Device.failures m st) (sym c.self.view_is) stands in
    let off = ap (λ (m : Held g.row.D.Denot). m.is_open) c.self.view_is ∙ c.requires in
    let may = s.closed_has off in
    let left = c.in_ok-reopen.ensures.left st.records st.pending may in
    let f = was-kept _ st (c.in_ok-reopen.ensures.settled st.records st.pending may) in
    let begun = c.in_err-self-inside.ensures.begins (settled f.0 st).records f.1 (legal-found st f.0 c.self.inside.limits k s.limits) in
    let u = stands-shut g.D.Disk.told g.D.Device.failures st _ _ _ off
    (unbegun g.D.Disk.told g.D.Device.failures _ _ st _ _ f.0 _ (settled-told st f.0 k) (shut-of g.D.Disk.told g.D.Device.failures st _ s off)
    c.in_ok-reopen.ensures.later left.1 begun.0) in
    rw (p.1, p.2) (comes-from g.D.Disk.told g.D.Device.failures g.D.Disk.moment g.D.Disk.since g.D.Device.is_steady g.D.Disk.stops_alone g.D.Disk.left (λ new. Sleeps st _ new) _ _ _ st c.self.view_is (
      u.0,
      u.1,
      (
        u.2,
        both g.D.Disk.moment g.D.Disk.since _ _ _ (IsOldOrMore st.records st.pending) _ (MayRemain st u.0) (left-old-or-more g.D.Disk.moment g.D.Disk.since _ _ st.records st.pending left.0) begun.1 u.3,
        marks-on c.in_ok-reopen.ensures.marks c.in_err-self-inside.ensures.marks,
      ),
    ))

pub returns-clause-wakes : goal.returns-clause-wakes
returns-clause-wakes g c st k stands =
    let s = subst (λ m. Stands g.D.Disk.told g.D.Device.failures m st) (sym c.self.view_is) stands in
    let off = ap (λ (m : Held g.row.D.Denot). m.is_open) c.self.view_is ∙ c.requires in
    let may = s.closed_has off in
    let left = c.in_ok-reopen.ensures.left st.records st.pending may in
    let f = was-kept _ st (c.in_ok-reopen.ensures.settled st.records st.pending may) in
    let begun = c.in_ok-self-inside.ensures.begins (settled f.0 st).records f.1 (legal-found st f.0 c.self.inside.limits k s.limits) in
    let w = woken g.D.Disk.told g.D.Device.failures _ st _ _ f.0 (settled-told st f.0 k) (shut-of g.D.Disk.told g.D.Device.failures st _ s off) c.in_ok-reopen.ensures.later begun.0 refl in
    comes-from g.D.Disk.told g.D.Device.failures g.D.Disk.moment g.D.Disk.since g.D.Device.is_steady g.D.Disk.stops_alone g.D.Disk.left (λ mid. IsWoken st mid) _ _ _ st c.self.view_is (
      w.0,
      w.1,
      (
        w.2,
        both g.D.Disk.moment g.D.Disk.since _ _ _ (IsOldOrMore st.records st.pending) _ (MayRemain st w.0) (left-old-or-more g.D.Disk.moment g.D.Disk.since _ _ st.records st.pending left.0) begun.1 w.3,
        marks-on c.in_ok-reopen.ensures.marks c.in_ok-self-inside.ensures.marks,
      ),
    )

pub returns-clause-settled : goal.returns-clause-settled
returns-clause-settled g c st stands = (stops g.D.Disk.told g.D.Device.failures st _ stands (λ on h. holds_settled _ _ _ _ c.in_ok-self-inside.ensures.ready.held h)).1
