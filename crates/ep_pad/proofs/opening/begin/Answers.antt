use Rattle.std.proofs.Common.{◌≡◌, ◌∙◌, Some, refl, sym, ap, subst, arith, rules}
use Rattle.std.proofs.lemmas.Result.{err_from_is_err_and}
use Rattle.ep_outside.specs.declared.limits.Limits.{Limits}
use Rattle.ep_history.specs.Machine.{longest_with}
use Rattle.ep_history.specs.Records.{told}
use Rattle.ep_history.specs.declared.pad_bad.PadBad.TheVariants.{JournalFull}
use Rattle.ep_history.specs.declared.record.Record.TheVariants as record_of
use Rattle.ep_pad_file.specs.PadFile.{length_of}
use Rattle.ep_pad_file.specs.Standing.{size, Holds}
use Rattle.ep_pad.specs.Opening.IsReadFault.{Wants}
use Rattle.ep_pad.specs.Standing.{opening}
use Rattle.ep_pad.proofs.Beginning.{opens-with, not-read, not-ready, not-kept, still-stands, stands-only, then-appends, then-appends-this}
use Rattle.ep_pad.proofs.Causes.{append-fault, append-refused, append-unfilled, full-is, later-refused, long-refused}
use Rattle.ep_pad.proofs.opening.begin.Goals as goal

pub returns-in_err-pad-clause-begins : goal.returns-in_err-pad-clause-begins
returns-in_err-pad-clause-begins g c rs h legal =
    let p = err_from_is_err_and c.from_residual.result c.from_residual.ensures.1 in
    rw (p.1, p.2) (not-read g.D.Disk.told g.D.Device.failures g.D.Disk.moment g.D.Disk.since c.args.limits rs _ _ _ c.in_err-pad.ensures.later c.in_err-pad.ensures.told (c.in_err-pad.ensures.own rs h legal)
    (stands-only g.D.Disk.told g.D.Device.failures g.D.Disk.moment g.D.Disk.since c.args.limits rs _ _ (c.in_err-pad.ensures.settled rs h) c.in_err-pad.ensures.images))

pub returns-in_err-prepared-clause-begins : goal.returns-in_err-prepared-clause-begins
returns-in_err-prepared-clause-begins g c rs h legal =
    let p = err_from_is_err_and c.from_residual-in_err-prepared.result c.from_residual-in_err-prepared.ensures.1 in
    let epoch = c.epoch.ensures (told c.args.limits rs) (c.in_ok-pad.ensures.pad rs h legal) in
    let next = c.in-Some.ensures in
    let is : record_of.Open c.in-Some.epoch ≡ opening (told c.args.limits rs) = ap record_of.Open (omega (arith, epoch, next)) in
    let most = longest_with c.args.limits (record_of.Open c.in-Some.epoch) in
    let opens = opens-with c.args.limits rs _ _ is
    (λ st records same. c.in_err-prepared.ensures.machine st most (subst (λ t. Holds t st.records) (sym c.in_ok-pad.ensures.told) (subst (Holds (g.D.Disk.told c.args.file.now.journal.disk)) (sym records) h))
    (ap (λ (l : Limits). longest_with l (record_of.Open c.in-Some.epoch)) same)) in
    rw (p.1, p.2) (not-ready g.D.Disk.told g.D.Device.failures g.D.Disk.moment g.D.Disk.since c.args.limits rs _ _ _ _ _ c.in_ok-pad.ensures.later c.in_err-prepared.ensures.failures
    (c.in_err-prepared.ensures.told ∙ c.in_ok-pad.ensures.told) (c.in_ok-pad.ensures.settled rs h) opens (c.in_err-prepared.ensures.refused most c.longest_file_with-longest.ensures.value)
    (still-stands g.D.Disk.told g.D.Device.failures g.D.Disk.moment g.D.Disk.since c.args.limits rs _ _ _ (c.in_ok-pad.ensures.settled rs h) c.in_ok-pad.ensures.told c.in_ok-pad.ensures.images c.in_err-prepared.ensures.images))

pub returns-in_err-append-clause-begins : goal.returns-in_err-append-clause-begins
returns-in_err-append-clause-begins g c rs h legal =
    let p = err_from_is_err_and c.from_residual-in_err-append.result c.from_residual-in_err-append.ensures.1 in
    let epoch = c.epoch.ensures (told c.args.limits rs) (c.in_ok-pad.ensures.pad rs h legal) in
    let next = c.in-Some.ensures in
    let is : record_of.Open c.in-Some.epoch ≡ opening (told c.args.limits rs) = ap record_of.Open (omega (arith, epoch, next)) in
    let most = longest_with c.args.limits (record_of.Open c.in-Some.epoch) in
    let opens = opens-with c.args.limits rs _ _ is
    (λ st records same. c.in_ok-prepared.ensures.machine st most (subst (λ t. Holds t st.records) (sym c.in_ok-pad.ensures.told) (subst (Holds (g.D.Disk.told c.args.file.now.journal.disk)) (sym records) h))
    (ap (λ (l : Limits). longest_with l (record_of.Open c.in-Some.epoch)) same)) in
    let held = subst (λ t. Holds t rs) (sym (c.in_ok-prepared.ensures.told ∙ c.in_ok-pad.ensures.told)) h in
    let earlier = c.in_ok-pad.ensures.later in
    let still = c.in_ok-prepared.ensures.failures in
    rw (p.1, p.2) (not-kept g.D.Disk.told g.D.Device.failures g.D.Disk.moment g.D.Disk.since c.args.limits rs _ _ _ _ _ _ (omega (arith, earlier, still)) c.in_err-append.ensures.later
    (c.in_ok-prepared.ensures.prepared ∙ is) (c.in_err-append.ensures.left rs held).1 opens (c.in_ok-prepared.ensures.fits most c.longest_file_with-longest.ensures.value)
    (append-fault _ _ _ _ c.in_err-append.ensures.refused)
    (then-appends g.D.Disk.told g.D.Device.failures g.D.Disk.moment g.D.Disk.since c.args.limits rs _ _ _ _
    (still-stands g.D.Disk.told g.D.Device.failures g.D.Disk.moment g.D.Disk.since c.args.limits rs _ _ _ (c.in_ok-pad.ensures.settled rs h) c.in_ok-pad.ensures.told c.in_ok-pad.ensures.images c.in_ok-prepared.ensures.images)
    (c.in_err-append.ensures.any_moment rs held)))

pub returns-in_default-clause-begins : goal.returns-in_default-clause-begins
returns-in_default-clause-begins g c rs h legal =
    not-read g.D.Disk.told g.D.Device.failures g.D.Disk.moment g.D.Disk.since c.args.limits rs _ _ _ c.in_ok-pad.ensures.later c.in_ok-pad.ensures.told (Wants refl)
    (stands-only g.D.Disk.told g.D.Device.failures g.D.Disk.moment g.D.Disk.since c.args.limits rs _ _ (c.in_ok-pad.ensures.settled rs h) c.in_ok-pad.ensures.images)

pub returns-in_err-next-clause-begins : goal.returns-in_err-next-clause-begins
returns-in_err-next-clause-begins g c rs h legal =
    let p = err_from_is_err_and c.from_residual-in_err-next.result c.from_residual-in_err-next.ensures.1 in
    let earlier = c.in_ok-pad.ensures.later in
    let still = c.in_ok-prepared.ensures.failures in
    rw (p.1, p.2) (not-read g.D.Disk.told g.D.Device.failures g.D.Disk.moment g.D.Disk.since c.args.limits rs _ _ _ (omega (arith, earlier, still)) (c.in_ok-prepared.ensures.told ∙ c.in_ok-pad.ensures.told) (Wants refl)
    (still-stands g.D.Disk.told g.D.Device.failures g.D.Disk.moment g.D.Disk.since c.args.limits rs _ _ _ (c.in_ok-pad.ensures.settled rs h) c.in_ok-pad.ensures.told c.in_ok-pad.ensures.images c.in_ok-prepared.ensures.images))

pub returns-clause-begins : goal.returns-clause-begins
returns-clause-begins g c rs h legal =
    let epoch = c.epoch.ensures (told c.args.limits rs) (c.in_ok-pad.ensures.pad rs h legal) in
    let next = c.in-Some.ensures in
    let is : record_of.Open c.in-Some.epoch ≡ opening (told c.args.limits rs) = ap record_of.Open (omega (arith, epoch, next)) in
    let held = subst (λ t. Holds t rs) (sym (c.in_ok-prepared.ensures.told ∙ c.in_ok-pad.ensures.told)) h in
    let run = then-appends-this g.D.Disk.told g.D.Device.failures g.D.Disk.moment g.D.Disk.since c.args.limits rs _ _ _ _ _ (c.in_ok-prepared.ensures.prepared ∙ is)
    (still-stands g.D.Disk.told g.D.Device.failures g.D.Disk.moment g.D.Disk.since c.args.limits rs _ _ _ (c.in_ok-pad.ensures.settled rs h) c.in_ok-pad.ensures.told c.in_ok-pad.ensures.images c.in_ok-prepared.ensures.images)
    (c.in_ok-append.ensures.any_moment rs held) in
    (search rules, run)

pub returns-in_err-pad-clause-refused : goal.returns-in_err-pad-clause-refused
returns-in_err-pad-clause-refused g c =
    let p = err_from_is_err_and c.from_residual.result c.from_residual.ensures.1 in
    rw (p.1, p.2) c.in_err-pad.ensures.refused

pub returns-in_err-prepared-clause-refused : goal.returns-in_err-prepared-clause-refused
returns-in_err-prepared-clause-refused g c =
    let p = err_from_is_err_and c.from_residual-in_err-prepared.result c.from_residual-in_err-prepared.ensures.1 in
    let most = longest_with c.args.limits (record_of.Open c.in-Some.epoch) in
    rw (p.1, p.2) (long-refused (length_of c.reread.new.file) most (size (record_of.Open c.in-Some.epoch)) _ _ _ (c.in_err-prepared.ensures.refused most c.longest_file_with-longest.ensures.value))

pub returns-in_err-append-clause-refused : goal.returns-in_err-append-clause-refused
returns-in_err-append-clause-refused g c =
    let p = err_from_is_err_and c.from_residual-in_err-append.result c.from_residual-in_err-append.ensures.1 in
    let earlier = c.in_ok-pad.ensures.later in
    let still = c.in_ok-prepared.ensures.failures in
    rw (p.1, p.2) (later-refused _ _ _ _ (omega (arith, earlier, still)) (append-refused _ _ _ _ c.in_err-append.ensures.refused))

pub returns-clause-told : goal.returns-clause-told
returns-clause-told g c k told =
    let before = c.in_ok-append.ensures.told k told in
    (before.0, sym (c.in_ok-prepared.ensures.told ∙ c.in_ok-pad.ensures.told) ∙ before.1)

pub returns-in_err-pad-clause-full : goal.returns-in_err-pad-clause-full
returns-in_err-pad-clause-full g c k n is =
    let p = err_from_is_err_and c.from_residual.result c.from_residual.ensures.1 in
    rw (p.1, p.2) (λ full. absurd (c.in_err-pad.ensures.unfilled n full))

pub returns-in_err-prepared-clause-full : goal.returns-in_err-prepared-clause-full
returns-in_err-prepared-clause-full g c k n told_is =
    let p = err_from_is_err_and c.from_residual-in_err-prepared.result c.from_residual-in_err-prepared.ensures.1 in
    let l = c.in_ok-pad.ensures.found k told_is in
    let held = subst (λ o. Holds o l.0) (sym told_is) l.1 in
    let epoch = c.epoch.ensures (told c.args.limits l.0) (c.in_ok-pad.ensures.pad l.0 held l.2) in
    let next = c.in-Some.ensures in
    let is : record_of.Open c.in-Some.epoch ≡ opening (told c.args.limits l.0) = ap record_of.Open (omega (arith, epoch, next)) in
    let most = longest_with c.args.limits (record_of.Open c.in-Some.epoch) in
    let opens = opens-with c.args.limits l.0 _ _ is
    (λ st records same. c.in_err-prepared.ensures.machine st most (subst (λ t. Holds t st.records) (sym c.in_ok-pad.ensures.told) (subst (Holds (g.D.Disk.told c.args.file.now.journal.disk)) (sym records) held))
    (ap (λ (l : Limits). longest_with l (record_of.Open c.in-Some.epoch)) same)) in
    rw (p.1, p.2) (λ full. (
      record { records = l.0; stands = l.1; legal = l.2; full = opens (Some (JournalFull n)) (full-is n _ _ (c.in_err-prepared.ensures.refused most c.longest_file_with-longest.ensures.value) full) },
      c.in_err-prepared.ensures.told ∙ c.in_ok-pad.ensures.told,
    ))

pub returns-in_err-append-clause-full : goal.returns-in_err-append-clause-full
returns-in_err-append-clause-full g c k n told_is =
    let p = err_from_is_err_and c.from_residual-in_err-append.result c.from_residual-in_err-append.ensures.1 in
    rw (p.1, p.2) (λ full. absurd (append-unfilled _ _ _ n _ c.in_err-append.ensures.refused full))
