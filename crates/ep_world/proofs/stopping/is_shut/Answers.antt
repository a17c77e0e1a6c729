use Rattle.std.proofs.Common.{◌≡◌, Err, subst}
use Rattle.ep_history.specs.Entries.Answer.{StatusAnswer}
use Rattle.ep_history.specs.Entries.Entry.{ReadStatus}
use Rattle.ep_history.specs.declared.pad_bad.PadBad.TheVariants as bad
use Rattle.ep_pad.specs.Standing.{replied}
use Rattle.ep_pad_state.specs.Answering.{status_of}
use Rattle.ep_world.specs.Standing.{IsAnswered}
use Rattle.ep_world.proofs.Calls.{answered}
use Rattle.ep_world.proofs.Counting.{err-counts, ok-counts, reads-fails}
use Rattle.ep_world.proofs.Crashes.{full-closed, gone-open, status-open}
use Rattle.ep_world.proofs.stopping.is_shut.Goals as goal

pub returns-in-Ok-clause-tells : goal.returns-in-Ok-clause-tells
returns-in-Ok-clause-tells g c = λ alone rs pad a.
    status-open g.D.Disk.told g.D.Device.failures g.D.Disk.stops_alone alone rs c.args.machine.now c.status.new.self pad c.in-Ok.field-0 a
    (subst (λ r. IsAnswered g.D.Disk.told g.D.Device.failures g.D.Disk.stops_alone alone rs c.args.machine.now pad ReadStatus (replied (λ x. StatusAnswer (status_of x)) r) c.status.new.self) c.in-Ok.is
    (answered g.D.Disk.told g.D.Device.failures g.D.Disk.stops_alone alone rs c.args.machine.now c.status.new.self pad ReadStatus (replied (λ x. StatusAnswer (status_of x)) c.status.result) a (λ st k x. let y = c.status.ensures st k x in (y.0, y.1, y.2, y.4.alone))))

pub returns-in-Err-Gone-clause-tells : goal.returns-in-Err-Gone-clause-tells
returns-in-Err-Gone-clause-tells g c = λ alone rs pad a.
    let gone : c.status.result ≡ Err bad.Gone = cc (c.in-Err-Gone.is, c.in-Err-Gone.field-0-is) in
    gone-open g.D.Disk.told g.D.Device.failures g.D.Disk.stops_alone alone rs c.args.machine.now c.status.new.self pad a
    (subst (λ r. IsAnswered g.D.Disk.told g.D.Device.failures g.D.Disk.stops_alone alone rs c.args.machine.now pad ReadStatus (replied (λ x. StatusAnswer (status_of x)) r) c.status.new.self) gone
    (answered g.D.Disk.told g.D.Device.failures g.D.Disk.stops_alone alone rs c.args.machine.now c.status.new.self pad ReadStatus (replied (λ x. StatusAnswer (status_of x)) c.status.result) a (λ st k x. let y = c.status.ensures st k x in (y.0, y.1, y.2, y.4.alone))))

pub returns-in-Err-JournalFull-clause-tells : goal.returns-in-Err-JournalFull-clause-tells
returns-in-Err-JournalFull-clause-tells g c = λ alone rs pad a.
    let full : c.status.result ≡ Err (bad.JournalFull c.in-Err-JournalFull.field-0-0) = cc (c.in-Err-JournalFull.is, c.in-Err-JournalFull.field-0-is) in
    full-closed g.D.Disk.told g.D.Device.failures g.D.Disk.stops_alone alone rs c.args.machine.now c.status.new.self pad c.in-Err-JournalFull.field-0-0 a
    (subst (λ r. IsAnswered g.D.Disk.told g.D.Device.failures g.D.Disk.stops_alone alone rs c.args.machine.now pad ReadStatus (replied (λ x. StatusAnswer (status_of x)) r) c.status.new.self) full
    (answered g.D.Disk.told g.D.Device.failures g.D.Disk.stops_alone alone rs c.args.machine.now c.status.new.self pad ReadStatus (replied (λ x. StatusAnswer (status_of x)) c.status.result) a (λ st k x. let y = c.status.ensures st k x in (y.0, y.1, y.2, y.4.alone))))

pub returns-in-Ok-clause-counts : goal.returns-in-Ok-clause-counts
returns-in-Ok-clause-counts g c = λ alone rs pad a.
    ok-counts g.D.Disk.told g.D.Device.failures g.D.Disk.stops_alone alone rs c.args.machine.now c.status.new.self pad ReadStatus (λ x. StatusAnswer (status_of x)) c.status.result c.in-Ok.field-0 a
    (λ st k x. let y = c.status.ensures st k x in (y.0, y.1, y.2, y.4.alone)) c.in-Ok.is

pub returns-in-Err-Gone-clause-counts : goal.returns-in-Err-Gone-clause-counts
returns-in-Err-Gone-clause-counts g c = λ alone rs pad a.
    let gone : c.status.result ≡ Err bad.Gone = cc (c.in-Err-Gone.is, c.in-Err-Gone.field-0-is) in
    err-counts g.D.Disk.told g.D.Device.failures g.D.Disk.stops_alone alone rs c.args.machine.now c.status.new.self pad ReadStatus (λ x. StatusAnswer (status_of x)) c.status.result bad.Gone a
    (λ st k x. let y = c.status.ensures st k x in (y.0, y.1, y.2, y.4.alone)) gone

pub returns-in-Err-JournalFull-clause-counts : goal.returns-in-Err-JournalFull-clause-counts
returns-in-Err-JournalFull-clause-counts g c = λ alone rs pad a.
    let full : c.status.result ≡ Err (bad.JournalFull c.in-Err-JournalFull.field-0-0) = cc (c.in-Err-JournalFull.is, c.in-Err-JournalFull.field-0-is) in
    err-counts g.D.Disk.told g.D.Device.failures g.D.Disk.stops_alone alone rs c.args.machine.now c.status.new.self pad ReadStatus (λ x. StatusAnswer (status_of x)) c.status.result (bad.JournalFull c.in-Err-JournalFull.field-0-0) a
    (λ st k x. let y = c.status.ensures st k x in (y.0, y.1, y.2, y.4.alone)) full

pub returns-in-Err-clause-counts : goal.returns-in-Err-clause-counts
returns-in-Err-clause-counts g c = λ alone rs pad a.
    rw c.failure.ensures
    (reads-fails g.D.Disk.told g.D.Device.failures g.D.Disk.stops_alone alone rs c.args.machine.now c.status.new.self pad ReadStatus (λ x. StatusAnswer (status_of x)) c.status.result c.in-Err.bad a
    (λ st k x. let y = c.status.ensures st k x in (y.0, y.1, y.2, y.4.alone)) c.in-Err.is)
