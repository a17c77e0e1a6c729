use Rattle.std.proofs.Common.{◌≡◌, Err, subst}
use Rattle.ep_pad.specs.Standing.{replied}
use Rattle.ep_world.specs.Standing.{IsAnswered}
use Rattle.ep_world.proofs.Calls.{answered}
use Rattle.ep_world.proofs.Crashes.{absent-shown, full-shown, opening-shown}
use Rattle.ep_history.specs.Entries.Answer.{StatusAnswer}
use Rattle.ep_history.specs.Entries.Entry.{ReadStatus}
use Rattle.ep_history.specs.declared.pad_bad.PadBad.TheVariants as bad
use Rattle.ep_pad_state.specs.Answering.{status_of}
use Rattle.ep_world.proofs.Counting.{err-counts, ok-counts, reads-fails}
use Rattle.ep_world.proofs.stopping.opening.Goals as goal

pub returns-in-Ok-clause-counts : goal.returns-in-Ok-clause-counts
returns-in-Ok-clause-counts g c = λ alone rs pad a.
    ok-counts g.D.Disk.told g.D.Device.failures g.D.Disk.stops_alone alone rs c.args.machine.now c.status.new.self pad ReadStatus (λ x. StatusAnswer (status_of x)) c.status.result c.in-Ok.status a
    (λ st k x. let y = c.status.ensures st k x in (y.0, y.1, y.2, y.4.alone)) c.in-Ok.is

pub returns-in-Err-Gone-clause-counts : goal.returns-in-Err-Gone-clause-counts
returns-in-Err-Gone-clause-counts g c = λ alone rs pad a.
    let gone : c.status.result ≡ Err bad.Gone = cc (c.in-Err-Gone.is, c.in-Err-Gone.field-0-is) in
    err-counts g.D.Disk.told g.D.Device.failures g.D.Disk.stops_alone alone rs c.args.machine.now c.status.new.self pad ReadStatus (λ x. StatusAnswer (status_of x)) c.status.result bad.Gone a
    (λ st k x. let y = c.status.ensures st k x in (y.0, y.1, y.2, y.4.alone)) gone

pub returns-in-Err-clause-counts : goal.returns-in-Err-clause-counts
returns-in-Err-clause-counts g c = λ alone rs pad a.
    rw c.failure.ensures
    (reads-fails g.D.Disk.told g.D.Device.failures g.D.Disk.stops_alone alone rs c.args.machine.now c.status.new.self pad ReadStatus (λ x. StatusAnswer (status_of x)) c.status.result c.in-Err.bad a
    (λ st k x. let y = c.status.ensures st k x in (y.0, y.1, y.2, y.4.alone)) c.in-Err.is)

pub returns-in-Err-JournalFull-clause-counts : goal.returns-in-Err-JournalFull-clause-counts
returns-in-Err-JournalFull-clause-counts g c = λ alone rs pad a.
    let full : c.status.result ≡ Err (bad.JournalFull c.in-Err-JournalFull.bytes) = cc c.in-Err-JournalFull.is in
    err-counts g.D.Disk.told g.D.Device.failures g.D.Disk.stops_alone alone rs c.args.machine.now c.status.new.self pad ReadStatus (λ x. StatusAnswer (status_of x)) c.status.result (bad.JournalFull c.in-Err-JournalFull.bytes) a
    (λ st k x. let y = c.status.ensures st k x in (y.0, y.1, y.2, y.4.alone)) full

pub returns-in-Ok-clause-shows : goal.returns-in-Ok-clause-shows
returns-in-Ok-clause-shows g c = λ alone rs pad a.
    opening-shown g.D.Disk.told g.D.Device.failures g.D.Disk.stops_alone alone rs c.args.name c.args.machine.now c.status.new.self pad c.in-Ok.status c.epoch-epoch.result a c.epoch-epoch.ensures
    (subst (λ r. IsAnswered g.D.Disk.told g.D.Device.failures g.D.Disk.stops_alone alone rs c.args.machine.now pad ReadStatus (replied (λ x. StatusAnswer (status_of x)) r) c.status.new.self) c.in-Ok.is
    (answered g.D.Disk.told g.D.Device.failures g.D.Disk.stops_alone alone rs c.args.machine.now c.status.new.self pad ReadStatus (replied (λ x. StatusAnswer (status_of x)) c.status.result) a (λ st k x. let y = c.status.ensures st k x in (y.0, y.1, y.2, y.4.alone))))

pub returns-in-Err-Gone-clause-shows : goal.returns-in-Err-Gone-clause-shows
returns-in-Err-Gone-clause-shows g c = λ alone rs pad a.
    let gone : c.status.result ≡ Err bad.Gone = cc (c.in-Err-Gone.is, c.in-Err-Gone.field-0-is) in
    absent-shown g.D.Disk.told g.D.Device.failures g.D.Disk.stops_alone alone rs c.args.name c.args.machine.now c.status.new.self pad c.epoch-epoch.result a c.epoch-epoch.ensures
    (subst (λ r. IsAnswered g.D.Disk.told g.D.Device.failures g.D.Disk.stops_alone alone rs c.args.machine.now pad ReadStatus (replied (λ x. StatusAnswer (status_of x)) r) c.status.new.self) gone
    (answered g.D.Disk.told g.D.Device.failures g.D.Disk.stops_alone alone rs c.args.machine.now c.status.new.self pad ReadStatus (replied (λ x. StatusAnswer (status_of x)) c.status.result) a (λ st k x. let y = c.status.ensures st k x in (y.0, y.1, y.2, y.4.alone))))

pub returns-in-Err-JournalFull-clause-shows : goal.returns-in-Err-JournalFull-clause-shows
returns-in-Err-JournalFull-clause-shows g c = λ alone rs pad a.
    let full : c.status.result ≡ Err (bad.JournalFull c.in-Err-JournalFull.bytes) = cc c.in-Err-JournalFull.is in
    rw c.full.ensures
    (full-shown g.D.Disk.told g.D.Device.failures g.D.Disk.stops_alone alone rs c.args.name c.args.machine.now c.status.new.self pad c.in-Err-JournalFull.bytes
    (subst (λ r. IsAnswered g.D.Disk.told g.D.Device.failures g.D.Disk.stops_alone alone rs c.args.machine.now pad ReadStatus (replied (λ x. StatusAnswer (status_of x)) r) c.status.new.self) full
    (answered g.D.Disk.told g.D.Device.failures g.D.Disk.stops_alone alone rs c.args.machine.now c.status.new.self pad ReadStatus (replied (λ x. StatusAnswer (status_of x)) c.status.result) a (λ st k x. let y = c.status.ensures st k x in (y.0, y.1, y.2, y.4.alone)))))
