use Rattle.std.proofs.Common.{inl, ◌∙◌, sym, ap, subst, refl, arith}
use Rattle.std.proofs.lemmas.List.Elements.{All-nil}
use Rattle.ep_outside.specs.Disk.{settled as settled_at, KeepsMarks}
use Rattle.ep_outside.specs.Moments.{LeavesOnly}
use Rattle.ep_outside.proofs.Moments.{weaker}
use Rattle.ep_journal.specs.File.{mended}
use Rattle.ep_history.specs.Machine.{settled}
use Rattle.ep_pad_file.specs.PadFile.{disk_of}
use Rattle.ep_pad_file.specs.Standing.{Holds, IsOldOrMore, MayHold}
use Rattle.ep_pad.specs.Crashes.{MayRemain}
use Rattle.ep_pad.specs.Opening.{found, BeginRefused, OpenRefused}
use Rattle.ep_pad_file.specs.Refusals as file
use Rattle.ep_pad.specs.declared.entries.PadEntry.{PadEntry}
use Rattle.ep_pad.specs.declared.entries.PadReply.{PadReply}
use Rattle.ep_pad.specs.Entries.{Suits}
use Rattle.ep_pad.proofs.Causes.{begin-refused, file-refused, open-fault}
use Rattle.ep_pad.proofs.Crashing.{both, left-old-or-more}
use Rattle.ep_pad.proofs.Rereading.{marks-on}
use Rattle.ep_pad.proofs.Found.{found-legal, found-shut, found-told}
use Rattle.ep_pad.proofs.Waking.{first, unbegun, unread, was-kept, woken}
use Rattle.ep_pad.proofs.machine.PadMachine.open.Goals as goal

pub returns-in-Err-clause-refused : goal.returns-in-Err-clause-refused
returns-in-Err-clause-refused g c = record {
  cause = file-refused _ _ _ _ _ c.in-Err.ensures.refused;
  later = c.in-Err.ensures.later;
  keeps = λ rs pending may legal.
      let n = g.D.Device.failures c.args.disk in
      let fault = open-fault _ _ _ _ _ c.in-Err.ensures.refused (c.in-Err.ensures.own_left rs pending may) in
      let u = unread _ c.args.limits n _ (IsOldOrMore rs pending) (found c.args.limits rs pending n) _ (found-shut c.args.limits rs pending n) c.in-Err.ensures.later fault
      (c.in-Err.ensures.left rs pending may).1 (λ image h. h) in
      (n, u.0, u.1, u.3, omega arith);
}

pub returns-in-Ok-begin-clause-first : goal.returns-in-Ok-begin-clause-first
returns-in-Ok-begin-clause-first g c rs h legal =
    first g.D.Disk.told g.D.Device.failures c.args.limits rs _ _ legal refl refl (c.in-Ok-begin.ensures.begins rs (c.in-Ok.ensures.records rs h) legal).0

pub returns-in-Ok-begin-clause-opens : goal.returns-in-Ok-begin-clause-opens
returns-in-Ok-begin-clause-opens g c rs pending may legal =
    let n = g.D.Device.failures (disk_of c.in-Ok.file) in
    let st = found c.args.limits rs pending n in
    let f = was-kept _ st (c.in-Ok.ensures.settled rs pending may) in
    let begun = c.in-Ok-begin.ensures.begins (settled f.0 st).records f.1 (found-legal c.args.limits rs pending n f.0 legal) in
    let w = woken g.D.Disk.told g.D.Device.failures n st _ _ f.0 (found-told c.args.limits rs pending n f.0) (found-shut c.args.limits rs pending n) (omega arith) begun.0 refl in
    (n, c.in-Ok.ensures.later, (w.0, w.1, w.2))

pub returns-in-Ok-begin-clause-crash : goal.returns-in-Ok-begin-clause-crash
returns-in-Ok-begin-clause-crash g c rs pending may legal =
    let n = g.D.Device.failures (disk_of c.in-Ok.file) in
    let st = found c.args.limits rs pending n in
    let left = c.in-Ok.ensures.left rs pending may in
    let f = was-kept _ st (c.in-Ok.ensures.settled rs pending may) in
    let begun = c.in-Ok-begin.ensures.begins (settled f.0 st).records f.1 (found-legal c.args.limits rs pending n f.0 legal) in
    let w = woken g.D.Disk.told g.D.Device.failures n st _ _ f.0 (found-told c.args.limits rs pending n f.0) (found-shut c.args.limits rs pending n) (omega arith) begun.0 refl in
    (w.0, w.2, both g.D.Disk.moment g.D.Disk.since _ _ _ (IsOldOrMore rs pending) _ (MayRemain st w.0) (left-old-or-more g.D.Disk.moment g.D.Disk.since _ _ rs pending left.0) begun.1 w.3)

pub returns-in-Err-clause-crash : goal.returns-in-Err-clause-crash
returns-in-Err-clause-crash g c rs pending may legal =
    let left = c.in-Err.ensures.left rs pending may in
    let st = found c.args.limits rs pending (g.D.Device.failures c.args.disk) in
    (st, left.1, weaker g.D.Disk.moment g.D.Disk.since _ _ (IsOldOrMore rs pending) (MayRemain st st) (λ image h. inl h) (left-old-or-more g.D.Disk.moment g.D.Disk.since _ _ rs pending left.0))

pub returns-in-Err-begin-clause-crash : goal.returns-in-Err-begin-clause-crash
returns-in-Err-begin-clause-crash g c rs pending may legal =
    let n = g.D.Device.failures (disk_of c.in-Ok.file) in
    let st = found c.args.limits rs pending n in
    let left = c.in-Ok.ensures.left rs pending may in
    let f = was-kept _ st (c.in-Ok.ensures.settled rs pending may) in
    let begun = c.in-Err-begin.ensures.begins (settled f.0 st).records f.1 (found-legal c.args.limits rs pending n f.0 legal) in
    let u = unbegun g.D.Disk.told g.D.Device.failures c.args.limits n st _ _ f.0 _ (found-told c.args.limits rs pending n f.0) (found-shut c.args.limits rs pending n)
    (omega arith) left.1 begun.0 in
    let run = both g.D.Disk.moment g.D.Disk.since _ _ _ (IsOldOrMore rs pending) _ (MayRemain st u.0) (left-old-or-more g.D.Disk.moment g.D.Disk.since _ _ rs pending left.0) begun.1 u.4 in
    (u.0, subst (λ d. MayHold (g.D.Disk.told d) u.0.records u.0.pending) (sym c.into_disk.ensures) u.3, subst (λ d. LeavesOnly g.D.Disk.moment g.D.Disk.since c.args.disk d (MayRemain st u.0)) (sym c.into_disk.ensures) run)

pub returns-in-Ok-begin-clause-marks : goal.returns-in-Ok-begin-clause-marks
returns-in-Ok-begin-clause-marks g c = marks-on c.in-Ok.ensures.marks c.in-Ok-begin.ensures.marks

pub returns-in-Err-begin-clause-marks : goal.returns-in-Err-begin-clause-marks
returns-in-Err-begin-clause-marks g c =
    subst (λ d. KeepsMarks g.D.Device.is_steady g.D.Disk.stops_alone g.D.Disk.left c.args.disk d) (sym c.into_disk.ensures) (marks-on c.in-Ok.ensures.marks c.in-Err-begin.ensures.marks)

pub returns-in-Err-begin-clause-refused : goal.returns-in-Err-begin-clause-refused
returns-in-Err-begin-clause-refused g c =
    let same = ap g.D.Device.failures c.into_disk.ensures in
    let a = c.in-Ok.ensures.later in
    let b = c.in-Err-begin.ensures.later in
    record {
      cause = subst (λ n. OpenRefused (g.D.Disk.told c.args.disk) (g.D.Device.failures c.args.disk) n c.in-Err-begin.why) (sym same)
          (begin-refused (g.D.Disk.told c.args.disk) (g.D.Device.failures c.args.disk) (g.D.Device.failures (disk_of c.in-Ok.file)) _ c.in-Err-begin.why a c.in-Err-begin.ensures.refused);
      later = omega (arith, a, b, same);
      keeps = λ rs pending may legal.
          let n = g.D.Device.failures (disk_of c.in-Ok.file) in
          let st = found c.args.limits rs pending n in
          let f = was-kept _ st (c.in-Ok.ensures.settled rs pending may) in
          let begun = c.in-Err-begin.ensures.begins (settled f.0 st).records f.1 (found-legal c.args.limits rs pending n f.0 legal) in
          let u = unbegun g.D.Disk.told g.D.Device.failures c.args.limits n st _ _ f.0 _ (found-told c.args.limits rs pending n f.0) (found-shut c.args.limits rs pending n)
          (omega arith) (c.in-Ok.ensures.left rs pending may).1 begun.0 in
          (n, u.0, u.1, subst (λ d. MayHold (g.D.Disk.told d) u.0.records u.0.pending) (sym c.into_disk.ensures) u.3, a);
    }

pub returns-in-Err-begin-clause-bad : goal.returns-in-Err-begin-clause-bad
returns-in-Err-begin-clause-bad g c k n is why = c.in-Err-begin.ensures.bad (settled_at (mended k.seen)) n (c.in-Ok.ensures.file k is) why

pub returns-in-Ok-begin-clause-begun : goal.returns-in-Ok-begin-clause-begun
returns-in-Ok-begin-clause-begun g c = (
  λ told.
      let t = c.in-Ok-begin.ensures.told told.0 told.1 in
      let l = c.in-Ok-begin.ensures.found t.0 t.1 in
      let held = subst (λ o. Holds o l.0) (sym t.1) l.1 in
      let f = first g.D.Disk.told g.D.Device.failures c.args.limits l.0 _ _ l.2 refl refl (c.in-Ok-begin.ensures.begins l.0 held l.2).0 in
      (f.0, f.0, record { first = f.1; stands = f.3 }, refl, f.3),
  All-nil (λ (c : PadEntry × PadReply). Suits c.0 c.1),
)

pub returns-in-Err-clause-alone : goal.returns-in-Err-clause-alone
returns-in-Err-clause-alone g c k n is bad = absurd (subst (file.OpenRefused _ _ _ _) bad c.in-Err.ensures.refused)

pub returns-in-Err-begin-clause-untouched : goal.returns-in-Err-begin-clause-untouched
returns-in-Err-begin-clause-untouched g c k is foreign = absurd (subst (BeginRefused _ _) foreign c.in-Err-begin.ensures.refused)

pub returns-in-Err-begin-clause-alone : goal.returns-in-Err-begin-clause-alone
returns-in-Err-begin-clause-alone g c k n is bad = ap g.D.Disk.told c.into_disk.ensures ∙ c.in-Err-begin.ensures.alone n bad ∙ c.in-Ok.ensures.file k is

pub returns-in-Err-clause-full : goal.returns-in-Err-clause-full
returns-in-Err-clause-full g c k n is full = absurd (subst (file.OpenRefused _ _ _ _) full c.in-Err.ensures.refused)

pub returns-in-Err-begin-clause-full : goal.returns-in-Err-begin-clause-full
returns-in-Err-begin-clause-full g c k n is full =
    let f = c.in-Err-begin.ensures.full (settled_at (mended k.seen)) n (c.in-Ok.ensures.file k is) full in
    (f.0, ap g.D.Disk.told c.into_disk.ensures ∙ f.1 ∙ c.in-Ok.ensures.file k is)
