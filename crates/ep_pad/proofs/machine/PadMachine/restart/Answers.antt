use Rattle.std.proofs.Common.{false, None, sym, subst, refl, arith}
use Rattle.std.proofs.lemmas.Result.{err_from_is_err_and}
use Rattle.ep_outside.proofs.Moments.{weaker}
use Rattle.ep_history.specs.Machine.{settled}
use Rattle.ep_pad_file.specs.Standing.{IsOldOrMore}
use Rattle.ep_pad_file.proofs.Telling.{holds_settled}
use Rattle.ep_pad.specs.Crashes.{MayRemain}
use Rattle.ep_pad.specs.Opening.{stopped}
use Rattle.ep_pad.specs.Standing.{Stands}
use Rattle.ep_pad.proofs.Causes.{open-fault, open-unfilled}
use Rattle.ep_pad.proofs.Crashing.{both, leaves-from, left-old-or-more}
use Rattle.ep_pad.proofs.Steps.{with_faults}
use Rattle.ep_pad.proofs.Waking.{first, found-full, was-kept, legal-found, settled-told, stopped-kept, stops, stands-closed, stands-shut, unbegun, unread, woken}
use Rattle.ep_pad.proofs.machine.PadMachine.restart.Goals as goal

-- ---- the file did not open

pub returns-in_err-restart-clause-restarts : goal.returns-in_err-restart-clause-restarts
returns-in_err-restart-clause-restarts g c st k stands =
    let p = err_from_is_err_and c.from_residual.result c.from_residual.ensures.1 in
    let s = subst (λ m. Stands g.D.Disk.told g.D.Device.failures m st) (sym c.self.view_is) stands in
    let shut = stops g.D.Disk.told g.D.Device.failures st _ s (λ on h. holds_settled _ _ _ _ (c.self.invariant.0 on).held h) in
    let fault = open-fault None _ _ _ _ c.in_err-restart.ensures.refused (c.in_err-restart.ensures.own_left st.records st.pending shut.1) in
    let u = stands-shut g.D.Disk.told g.D.Device.failures (stopped st) _ _ (IsOldOrMore st.records st.pending) refl
    (unread _ _ _ _ (IsOldOrMore st.records st.pending) (stopped st) _ shut.0 c.in_err-restart.ensures.later fault (c.in_err-restart.ensures.left st.records st.pending shut.1).1 (λ image h. h)) in
    rw (p.1, p.2) (u.0, u.1, u.2)

pub returns-in_err-restart-clause-crash : goal.returns-in_err-restart-clause-crash
returns-in_err-restart-clause-crash g c st k stands =
    let s = subst (λ m. Stands g.D.Disk.told g.D.Device.failures m st) (sym c.self.view_is) stands in
    let shut = stops g.D.Disk.told g.D.Device.failures st _ s (λ on h. holds_settled _ _ _ _ (c.self.invariant.0 on).held h) in
    let left = c.in_err-restart.ensures.left st.records st.pending shut.1 in
    let fault = open-fault None _ _ _ _ c.in_err-restart.ensures.refused (c.in_err-restart.ensures.own_left st.records st.pending shut.1) in
    let u = stands-shut g.D.Disk.told g.D.Device.failures (stopped st) _ _ (IsOldOrMore st.records st.pending) refl (unread _ _ _ _ (IsOldOrMore st.records st.pending) (stopped st) _ shut.0 c.in_err-restart.ensures.later fault left.1 (λ image h. h)) in (
      u.0,
      u.2,
      leaves-from g.D.Disk.moment g.D.Disk.since _ _ _ (MayRemain st u.0) c.self.view_is (weaker g.D.Disk.moment g.D.Disk.since _ _ (IsOldOrMore st.records st.pending) (MayRemain st u.0) u.3 (left-old-or-more g.D.Disk.moment g.D.Disk.since _ _ st.records st.pending left.0)),
    )

-- ---- its records were not read, or the opening's record not kept

pub returns-in_err-self-inside-clause-restarts : goal.returns-in_err-self-inside-clause-restarts
returns-in_err-self-inside-clause-restarts g c st k stands =
    let p = err_from_is_err_and c.from_residual-in_err-self-inside.result c.from_residual-in_err-self-inside.ensures.1 in
    let s = subst (λ m. Stands g.D.Disk.told g.D.Device.failures m st) (sym c.self.view_is) stands in
    let shut = stops g.D.Disk.told g.D.Device.failures st _ s (λ on h. holds_settled _ _ _ _ (c.self.invariant.0 on).held h) in
    let f = was-kept _ (stopped st) (c.in_ok-restart.ensures.settled st.records st.pending shut.1) in
    let kept = stopped-kept st k in
    let begun = c.in_err-self-inside.ensures.begins (settled f.0 (stopped st)).records f.1 (legal-found (stopped st) f.0 c.self.inside.limits kept s.limits) in
    let u = stands-shut g.D.Disk.told g.D.Device.failures (stopped st) _ _ _ refl
    (unbegun g.D.Disk.told g.D.Device.failures _ _ (stopped st) _ _ f.0 _ (settled-told (stopped st) f.0 kept) shut.0
    c.in_ok-restart.ensures.later (c.in_ok-restart.ensures.left st.records st.pending shut.1).1 begun.0) in
    rw (p.1, p.2) (u.0, u.1, u.2)

pub returns-in_err-self-inside-clause-crash : goal.returns-in_err-self-inside-clause-crash
returns-in_err-self-inside-clause-crash g c st k stands =
    let s = subst (λ m. Stands g.D.Disk.told g.D.Device.failures m st) (sym c.self.view_is) stands in
    let shut = stops g.D.Disk.told g.D.Device.failures st _ s (λ on h. holds_settled _ _ _ _ (c.self.invariant.0 on).held h) in
    let left = c.in_ok-restart.ensures.left st.records st.pending shut.1 in
    let f = was-kept _ (stopped st) (c.in_ok-restart.ensures.settled st.records st.pending shut.1) in
    let kept = stopped-kept st k in
    let begun = c.in_err-self-inside.ensures.begins (settled f.0 (stopped st)).records f.1 (legal-found (stopped st) f.0 c.self.inside.limits kept s.limits) in
    let u = stands-shut g.D.Disk.told g.D.Device.failures (stopped st) _ _ _ refl
    (unbegun g.D.Disk.told g.D.Device.failures _ _ (stopped st) _ _ f.0 _ (settled-told (stopped st) f.0 kept) shut.0 c.in_ok-restart.ensures.later left.1 begun.0) in (
      u.0,
      u.2,
      leaves-from g.D.Disk.moment g.D.Disk.since _ _ _ (MayRemain st u.0) c.self.view_is (both g.D.Disk.moment g.D.Disk.since _ _ _ (IsOldOrMore st.records st.pending) _ (MayRemain st u.0) (left-old-or-more g.D.Disk.moment g.D.Disk.since _ _ st.records st.pending left.0) begun.1 u.3),
    )

-- ---- it is open

pub returns-clause-restarts : goal.returns-clause-restarts
returns-clause-restarts g c st k stands =
    let s = subst (λ m. Stands g.D.Disk.told g.D.Device.failures m st) (sym c.self.view_is) stands in
    let shut = stops g.D.Disk.told g.D.Device.failures st _ s (λ on h. holds_settled _ _ _ _ (c.self.invariant.0 on).held h) in
    let f = was-kept _ (stopped st) (c.in_ok-restart.ensures.settled st.records st.pending shut.1) in
    let kept = stopped-kept st k in
    let begun = c.in_ok-self-inside.ensures.begins (settled f.0 (stopped st)).records f.1 (legal-found (stopped st) f.0 c.self.inside.limits kept s.limits) in
    let w = woken g.D.Disk.told g.D.Device.failures _ (stopped st) _ _ f.0 (settled-told (stopped st) f.0 kept) shut.0 c.in_ok-restart.ensures.later begun.0 refl in
    (w.0, w.1, w.2)

pub returns-clause-crash : goal.returns-clause-crash
returns-clause-crash g c st k stands =
    let s = subst (λ m. Stands g.D.Disk.told g.D.Device.failures m st) (sym c.self.view_is) stands in
    let shut = stops g.D.Disk.told g.D.Device.failures st _ s (λ on h. holds_settled _ _ _ _ (c.self.invariant.0 on).held h) in
    let left = c.in_ok-restart.ensures.left st.records st.pending shut.1 in
    let f = was-kept _ (stopped st) (c.in_ok-restart.ensures.settled st.records st.pending shut.1) in
    let kept = stopped-kept st k in
    let begun = c.in_ok-self-inside.ensures.begins (settled f.0 (stopped st)).records f.1 (legal-found (stopped st) f.0 c.self.inside.limits kept s.limits) in
    let w = woken g.D.Disk.told g.D.Device.failures _ (stopped st) _ _ f.0 (settled-told (stopped st) f.0 kept) shut.0 c.in_ok-restart.ensures.later begun.0 refl in (
      w.0,
      w.2,
      leaves-from g.D.Disk.moment g.D.Disk.since _ _ _ (MayRemain st w.0) c.self.view_is (both g.D.Disk.moment g.D.Disk.since _ _ _ (IsOldOrMore st.records st.pending) _ (MayRemain st w.0) (left-old-or-more g.D.Disk.moment g.D.Disk.since _ _ st.records st.pending left.0) begun.1 w.3),
    )

pub returns-clause-image : goal.returns-clause-image
returns-clause-image g c = rw (sym c.self.view_is) (λ k told.
    let o = c.in_ok-restart.ensures.opens k told in
    (o.0, o.1, λ rs s legal. first g.D.Disk.told g.D.Device.failures c.self.inside.limits rs _ _ legal refl refl (c.in_ok-self-inside.ensures.begins rs (o.2.records rs s) legal).0))

pub returns-clause-finds : goal.returns-clause-finds
returns-clause-finds g c = rw (sym c.self.view_is) (λ k told.
    let o = c.in_ok-restart.ensures.opens k told in (
      o.0,
      o.1,
      λ at m.
          let begun = c.in_ok-self-inside.ensures.begins at.records (o.2.records at.records m.stands) (legal-found at false c.self.inside.limits m.kept m.limits) in
          let few = m.few in
          let later = c.in_ok-restart.ensures.later in
          let w = woken g.D.Disk.told g.D.Device.failures at.faults at _ _ false (settled-told at false m.kept) (record { shut = m.shut; limits = m.limits; faults = refl }) (omega (arith, few, later)) begun.0 refl in
          (w.0, w.1, w.2),
    ))

-- ---- it has no room for the opening

pub returns-in_err-restart-clause-full : goal.returns-in_err-restart-clause-full
returns-in_err-restart-clause-full g c =
    let p = err_from_is_err_and c.from_residual.result c.from_residual.ensures.1 in
    rw (sym c.self.view_is) (λ k told.
    let o = c.in_err-restart.ensures.opens k told in
    (o.0, o.1, λ at n m. rw (p.1, p.2) (λ full. absurd (open-unfilled None _ _ _ n _ c.in_err-restart.ensures.refused full))))

pub returns-in_err-self-inside-clause-full : goal.returns-in_err-self-inside-clause-full
returns-in_err-self-inside-clause-full g c =
    let p = err_from_is_err_and c.from_residual-in_err-self-inside.result c.from_residual-in_err-self-inside.ensures.1 in
    rw (sym c.self.view_is) (λ k told.
    let o = c.in_ok-restart.ensures.opens k told in (
      o.0,
      o.1,
      λ at n m. rw (p.1, p.2) (λ full.
          let begun = c.in_err-self-inside.ensures.begins at.records (o.2.records at.records m.stands) (legal-found at false c.self.inside.limits m.kept m.limits) in
          let few = m.few in
          let later = c.in_ok-restart.ensures.later in
          let z = found-full g.D.Disk.told g.D.Device.failures c.self.inside.limits at _ _ n _ full (settled-told at false m.kept) m.limits m.shut m.settled (omega (arith, few, later)) begun.0 in
          (with_faults at _, z.0, stands-closed g.D.Disk.told g.D.Device.failures (with_faults at _) _ refl z.1 z.2)),
    ))

pub returns-clause-full : goal.returns-clause-full
returns-clause-full g c = rw (sym c.self.view_is) (λ k told. let o = c.in_ok-restart.ensures.opens k told in (o.0, o.1, λ at n m. tt))
