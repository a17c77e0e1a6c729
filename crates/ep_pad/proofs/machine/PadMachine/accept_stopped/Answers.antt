use Rattle.std.proofs.Common.{◌≡◌, ◌∙◌, ⊎_elim, ℕ, Option, refl, sym, ap, subst}
use Rattle.std.proofs.lemmas.Result.{err_from_is_err_and}
use Rattle.ep_outside.specs.Crash.{image_at, IsAsked}
use Rattle.ep_outside.specs.declared.image.Image.{Image}
use Rattle.ep_outside.specs.declared.limits.Limits.{Limits}
use Rattle.ep_history.specs.Entries.Answer.{CommitAnswer}
use Rattle.ep_history.specs.Entries.Entry.{Accept}
use Rattle.ep_history.proofs.Steps.{step-kept}
use Rattle.ep_step.specs.Telling.{told_by}
use Rattle.ep_pad_file.specs.Standing.{size, MayHold}
use Rattle.ep_pad_file.specs.Stopping.{gate_behind, is_kept}
use Rattle.ep_pad.specs.Opening.{stopped, MayFind, Sleeps}
use Rattle.ep_pad.specs.Opening.IsWoken.{Was}
use Rattle.ep_pad.specs.Standing.{replied}
use Rattle.ep_pad.specs.Stopping.{HasNoRoom, StaysStopped}
use Rattle.ep_pad.specs.Stopping.HasNoRoom.{FullBefore}
use Rattle.ep_pad.specs.Stopping.StaysStopped.{Before, Behind}
use Rattle.ep_pad.proofs.Crashing.{comes-nowhere}
use Rattle.ep_pad.proofs.Stepping.{opened, woken-open}
use Rattle.ep_pad.proofs.Stopping.{full-behind, lacks-behind, never-full, replied-lacks, stands-tells, woken-state}
use Rattle.ep_pad.proofs.machine.PadMachine.accept_stopped.Goals as goal

pub returns-in_err-wake-clause-stops : goal.returns-in_err-wake-clause-stops
returns-in_err-wake-clause-stops g c st k s alone =
    let p = err_from_is_err_and c.from_residual.result c.from_residual.ensures.1 in
    let w = c.in_err-wake.ensures.wakes st k s in
    rw (p.1, p.2) (w.0, Before w.1, w.2.0)

pub returns-in-Err-clause-stops : goal.returns-in-Err-clause-stops
returns-in-Err-clause-stops g c st k s alone =
    let w = c.in_ok-wake.ensures.wakes st k s in
    let was = c.stop_after.ensures.stands w.0 w.2.0 in
    let may = subst (λ t. MayHold t w.0.records w.0.pending) (sym c.stop_after.ensures.told) (c.in_ok-wake.ensures.settled w.0 w.2.0) in
    let kept = woken-state st w.0 k w.1 (opened g.D.Disk.told g.D.Device.failures st w.0 _ w.1 w.2.0).settled in
    let t = c.take-taken.ensures.steps c.stop_after.new.self w.0 w.0 (Was (woken-open st w.0 w.1) refl)
    (comes-nowhere g.D.Disk.told g.D.Device.failures g.D.Disk.moment g.D.Disk.since g.D.Device.is_steady g.D.Disk.stops_alone g.D.Disk.left c.stop_after.new.self w.0 was may (λ image now. g.met.D.Disk.only_now _ image now)) in
    let r = c.in-Err.ensures.restarts t.0 (step-kept size w.0 _ _ t.0 kept t.1) (c.stop_after-2.ensures.stands t.0 t.2.0) in
    let tells = stands-tells g.D.Disk.told g.D.Device.failures _ t.0 t.2.0 in
    let f = c.in-Err.ensures.full tells.0 (c.stop_after-2.ensures.told ∙ tells.1) in
    let asks = subst (λ (o : Option ℕ). IsAsked tells.0 (image_at o c.args.asked) f.0) c.stop_after-2.ensures.stop
    (subst (λ (i : Image). IsAsked tells.0 (image_at (g.D.Disk.left c.stop_after-2.new.self.disk) i) f.0) c.stop_after-2.ensures.image f.1) in
    let x = c.take-taken.ensures.stopped w.0 c.args.calls kept was (c.stop_after.ensures.alone ∙ w.2.2.alone ∙ alone) c.stop_after.ensures.stop c.args.asked tells.0 f.0 tells.1 asks in
    let within = subst (λ (l : Limits). MayFind l (g.D.Device.failures c.take-taken.new.self.disk) f.0 x.0) (sym (c.stop_after-2.ensures.limits ∙ c.take-taken.ensures.limits)) x.2 in
    let finds = subst (λ (n : ℕ). MayFind c.stop_after-2.new.self.limits n f.0 x.0) (sym c.stop_after-2.ensures.failures) within in
    ⊎_elim
    (λ same. (r.0, Behind w.0 t.0 _ w.1 t.1 (subst (λ b. Sleeps (stopped t.0) b r.0) (sym same) r.1), r.2))
    (λ lacks.
    let z = f.2 x.0 lacks.0 finds lacks.1 in (
      z.0,
      subst (λ b. StaysStopped st (Accept c.args.session c.args.base c.args.change c.args.now) b z.0) (sym lacks.3)
          (lacks-behind st w.0 x.0 z.0 _ _ _ _ w.1 (woken-open st w.0 w.1) x.1 (ap (replied (λ x. CommitAnswer (told_by x))) lacks.2) z.1),
      z.2,
    ))
    c.told_behind.ensures.same

pub returns-in-Ok-clause-stops : goal.returns-in-Ok-clause-stops
returns-in-Ok-clause-stops g c st k s alone =
    let w = c.in_ok-wake.ensures.wakes st k s in
    let was = c.stop_after.ensures.stands w.0 w.2.0 in
    let may = subst (λ t. MayHold t w.0.records w.0.pending) (sym c.stop_after.ensures.told) (c.in_ok-wake.ensures.settled w.0 w.2.0) in
    let kept = woken-state st w.0 k w.1 (opened g.D.Disk.told g.D.Device.failures st w.0 _ w.1 w.2.0).settled in
    let t = c.take-taken.ensures.steps c.stop_after.new.self w.0 w.0 (Was (woken-open st w.0 w.1) refl)
    (comes-nowhere g.D.Disk.told g.D.Device.failures g.D.Disk.moment g.D.Disk.since g.D.Device.is_steady g.D.Disk.stops_alone g.D.Disk.left c.stop_after.new.self w.0 was may (λ image now. g.met.D.Disk.only_now _ image now)) in
    let tells = stands-tells g.D.Disk.told g.D.Device.failures _ t.0 t.2.0 in
    let f = c.in-Ok.ensures.finds tells.0 (c.stop_after-2.ensures.told ∙ tells.1) in
    let asks = subst (λ (o : Option ℕ). IsAsked tells.0 (image_at o c.args.asked) f.0) c.stop_after-2.ensures.stop
    (subst (λ (i : Image). IsAsked tells.0 (image_at (g.D.Disk.left c.stop_after-2.new.self.disk) i) f.0) c.stop_after-2.ensures.image f.1) in
    let x = c.take-taken.ensures.stopped w.0 c.args.calls kept was (c.stop_after.ensures.alone ∙ w.2.2.alone ∙ alone) c.stop_after.ensures.stop c.args.asked tells.0 f.0 tells.1 asks in
    let within = subst (λ (l : Limits). MayFind l (g.D.Device.failures c.take-taken.new.self.disk) f.0 x.0) (sym (c.stop_after-2.ensures.limits ∙ c.take-taken.ensures.limits)) x.2 in
    let finds = subst (λ (n : ℕ). MayFind c.stop_after-2.new.self.limits n f.0 x.0) (sym c.stop_after-2.ensures.failures) within in
    let z = f.2 x.0 finds in
    (w.0, x.0, z.0, w.1, x.1, z.1, z.2)

pub returns-in-Ok-clause-steps : goal.returns-in-Ok-clause-steps
returns-in-Ok-clause-steps g c st k s =
    let w = c.in_ok-wake.ensures.wakes st k s in
    let was = c.stop_after.ensures.stands w.0 w.2.0 in
    let may = subst (λ t. MayHold t w.0.records w.0.pending) (sym c.stop_after.ensures.told) (c.in_ok-wake.ensures.settled w.0 w.2.0) in
    let kept = woken-state st w.0 k w.1 (opened g.D.Disk.told g.D.Device.failures st w.0 _ w.1 w.2.0).settled in
    let t = c.take-taken.ensures.steps c.stop_after.new.self w.0 w.0 (Was (woken-open st w.0 w.1) refl)
    (comes-nowhere g.D.Disk.told g.D.Device.failures g.D.Disk.moment g.D.Disk.since g.D.Device.is_steady g.D.Disk.stops_alone g.D.Disk.left c.stop_after.new.self w.0 was may (λ image now. g.met.D.Disk.only_now _ image now)) in
    let r = c.in-Ok.ensures.restarts t.0 (step-kept size w.0 _ _ t.0 kept t.1) (c.stop_after-2.ensures.stands t.0 t.2.0) in
    (w.0, t.0, r.0, w.1, t.1, r.1, r.2)

pub returns-in_err-wake-clause-alone : goal.returns-in_err-wake-clause-alone
returns-in_err-wake-clause-alone g c st k s = let w = c.in_err-wake.ensures.wakes st k s in w.2.2.alone

pub returns-in-Err-clause-alone : goal.returns-in-Err-clause-alone
returns-in-Err-clause-alone g c st k s =
    let w = c.in_ok-wake.ensures.wakes st k s in
    let was = c.stop_after.ensures.stands w.0 w.2.0 in
    let may = subst (λ t. MayHold t w.0.records w.0.pending) (sym c.stop_after.ensures.told) (c.in_ok-wake.ensures.settled w.0 w.2.0) in
    let t = c.take-taken.ensures.steps c.stop_after.new.self w.0 w.0 (Was (woken-open st w.0 w.1) refl)
    (comes-nowhere g.D.Disk.told g.D.Device.failures g.D.Disk.moment g.D.Disk.since g.D.Device.is_steady g.D.Disk.stops_alone g.D.Disk.left c.stop_after.new.self w.0 was may (λ image now. g.met.D.Disk.only_now _ image now)) in
    c.in-Err.ensures.alone ∙ c.stop_after-2.ensures.alone ∙ t.2.2.alone ∙ c.stop_after.ensures.alone ∙ w.2.2.alone

pub returns-in-Ok-clause-alone : goal.returns-in-Ok-clause-alone
returns-in-Ok-clause-alone g c st k s =
    let w = c.in_ok-wake.ensures.wakes st k s in
    let was = c.stop_after.ensures.stands w.0 w.2.0 in
    let may = subst (λ t. MayHold t w.0.records w.0.pending) (sym c.stop_after.ensures.told) (c.in_ok-wake.ensures.settled w.0 w.2.0) in
    let t = c.take-taken.ensures.steps c.stop_after.new.self w.0 w.0 (Was (woken-open st w.0 w.1) refl)
    (comes-nowhere g.D.Disk.told g.D.Device.failures g.D.Disk.moment g.D.Disk.since g.D.Device.is_steady g.D.Disk.stops_alone g.D.Disk.left c.stop_after.new.self w.0 was may (λ image now. g.met.D.Disk.only_now _ image now)) in
    c.in-Ok.ensures.alone ∙ c.stop_after-2.ensures.alone ∙ t.2.2.alone ∙ c.stop_after.ensures.alone ∙ w.2.2.alone

pub returns-in_err-wake-clause-full : goal.returns-in_err-wake-clause-full
returns-in_err-wake-clause-full g c st n k s alone =
    let p = err_from_is_err_and c.from_residual.result c.from_residual.ensures.1 in
    let w = c.in_err-wake.ensures.wakes st k s in
    rw (p.1, p.2) (λ full. (w.0, FullBefore w.1, w.2.0))

pub returns-in-Err-clause-full : goal.returns-in-Err-clause-full
returns-in-Err-clause-full g c st n k s alone =
    let w = c.in_ok-wake.ensures.wakes st k s in
    let was = c.stop_after.ensures.stands w.0 w.2.0 in
    let may = subst (λ t. MayHold t w.0.records w.0.pending) (sym c.stop_after.ensures.told) (c.in_ok-wake.ensures.settled w.0 w.2.0) in
    let kept = woken-state st w.0 k w.1 (opened g.D.Disk.told g.D.Device.failures st w.0 _ w.1 w.2.0).settled in
    let t = c.take-taken.ensures.steps c.stop_after.new.self w.0 w.0 (Was (woken-open st w.0 w.1) refl)
    (comes-nowhere g.D.Disk.told g.D.Device.failures g.D.Disk.moment g.D.Disk.since g.D.Device.is_steady g.D.Disk.stops_alone g.D.Disk.left c.stop_after.new.self w.0 was may (λ image now. g.met.D.Disk.only_now _ image now)) in
    let tells = stands-tells g.D.Disk.told g.D.Device.failures _ t.0 t.2.0 in
    let f = c.in-Err.ensures.full tells.0 (c.stop_after-2.ensures.told ∙ tells.1) in
    let asks = subst (λ (o : Option ℕ). IsAsked tells.0 (image_at o c.args.asked) f.0) c.stop_after-2.ensures.stop
    (subst (λ (i : Image). IsAsked tells.0 (image_at (g.D.Disk.left c.stop_after-2.new.self.disk) i) f.0) c.stop_after-2.ensures.image f.1) in
    let x = c.take-taken.ensures.stopped w.0 c.args.calls kept was (c.stop_after.ensures.alone ∙ w.2.2.alone ∙ alone) c.stop_after.ensures.stop c.args.asked tells.0 f.0 tells.1 asks in
    let within = subst (λ (l : Limits). MayFind l (g.D.Device.failures c.take-taken.new.self.disk) f.0 x.0) (sym (c.stop_after-2.ensures.limits ∙ c.take-taken.ensures.limits)) x.2 in
    let finds = subst (λ (n : ℕ). MayFind c.stop_after-2.new.self.limits n f.0 x.0) (sym c.stop_after-2.ensures.failures) within in
    λ full. ⊎_elim
    (λ same.
    let z = f.2 x.0 n finds (sym same ∙ full) in
    let other = c.told_behind.ensures.full n full in (
      z.0,
      subst (λ b. HasNoRoom st (Accept c.args.session c.args.base c.args.change c.args.now) (λ mid. is_kept (gate_behind mid.records) c.args.calls c.args.asked) b z.0) (sym same)
          (full-behind st w.0 x.0 z.0 _ _ (λ mid. is_kept (gate_behind mid.records) c.args.calls c.args.asked) _ w.1 x.1 (λ is. other (replied-lacks (λ x. CommitAnswer (told_by x)) _ is)) z.1),
      z.2,
    ))
    (λ lacks. absurd (never-full _ n lacks.3 full))
    c.told_behind.ensures.same

pub returns-in_err-wake-clause-shut : goal.returns-in_err-wake-clause-shut
returns-in_err-wake-clause-shut g c st n k s =
    let p = err_from_is_err_and c.from_residual.result c.from_residual.ensures.1 in
    let w = c.in_err-wake.ensures.wakes st k s in
    rw (p.1, p.2) (λ full. (w.0, Before w.1, w.2.0))

pub returns-in-Err-clause-shut : goal.returns-in-Err-clause-shut
returns-in-Err-clause-shut g c st n k s =
    let w = c.in_ok-wake.ensures.wakes st k s in
    let was = c.stop_after.ensures.stands w.0 w.2.0 in
    let may = subst (λ t. MayHold t w.0.records w.0.pending) (sym c.stop_after.ensures.told) (c.in_ok-wake.ensures.settled w.0 w.2.0) in
    let kept = woken-state st w.0 k w.1 (opened g.D.Disk.told g.D.Device.failures st w.0 _ w.1 w.2.0).settled in
    let t = c.take-taken.ensures.steps c.stop_after.new.self w.0 w.0 (Was (woken-open st w.0 w.1) refl)
    (comes-nowhere g.D.Disk.told g.D.Device.failures g.D.Disk.moment g.D.Disk.since g.D.Device.is_steady g.D.Disk.stops_alone g.D.Disk.left c.stop_after.new.self w.0 was may (λ image now. g.met.D.Disk.only_now _ image now)) in
    let r = c.in-Err.ensures.restarts t.0 (step-kept size w.0 _ _ t.0 kept t.1) (c.stop_after-2.ensures.stands t.0 t.2.0) in
    λ full. ⊎_elim
    (λ same. (r.0, Behind w.0 t.0 _ w.1 t.1 (subst (λ b. Sleeps (stopped t.0) b r.0) (sym same) r.1), r.2))
    (λ lacks. absurd (never-full _ n lacks.3 full))
    c.told_behind.ensures.same
