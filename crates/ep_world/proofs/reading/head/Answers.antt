use Rattle.ep_world.proofs.Showing.{head-of, head-off, head-shut}
use Rattle.std.proofs.Common.{◌≡◌, Err, sym, subst}
use Rattle.ep_world.specs.Failing.{IsFailure}
use Rattle.ep_world.proofs.Brought.{failed-fails}
use Rattle.ep_history.specs.Entries.Answer.{StatusAnswer}
use Rattle.ep_history.specs.Entries.Entry.{ReadStatus}
use Rattle.ep_history.specs.declared.pad_bad.PadBad.TheVariants as bad
use Rattle.ep_pad_state.specs.Answering.{status_of}
use Rattle.ep_world.proofs.Counting.{err-counts, reads-fails}
use Rattle.ep_world.proofs.Ending.{head-counts, head-fails}
use Rattle.ep_world.proofs.reading.head.Goals as goal

pub returns-in-Ok-text-clause-told : goal.returns-in-Ok-text-clause-told
returns-in-Ok-text-clause-told g c = λ alone rs pad a.
    head-of g.D.Disk.told g.D.Device.failures g.D.Disk.stops_alone alone rs c.args.machine.now c.status.new.self c.text.new.self pad c.in-Ok.status c.in-Ok-text.doc c.status.result c.text.result a
    (λ st k x. let y = c.status.ensures st k x in (y.0, y.1, y.2, y.4.alone)) c.in-Ok.is (λ st k x. let y = c.text.ensures st k x in (y.0, y.1, y.2, y.4.alone)) c.in-Ok-text.is

pub returns-in-Ok-text-clause-counts : goal.returns-in-Ok-text-clause-counts
returns-in-Ok-text-clause-counts g c = λ alone rs pad a.
    head-counts g.D.Disk.told g.D.Device.failures g.D.Disk.stops_alone alone rs c.args.machine.now c.status.new.self c.text.new.self pad c.in-Ok.status c.in-Ok-text.doc c.status.result c.text.result a
    (λ st k x. let y = c.status.ensures st k x in (y.0, y.1, y.2, y.4.alone)) c.in-Ok.is (λ st k x. let y = c.text.ensures st k x in (y.0, y.1, y.2, y.4.alone)) c.in-Ok-text.is

pub returns-in-Err-text-clause-counts : goal.returns-in-Err-text-clause-counts
returns-in-Err-text-clause-counts g c = λ alone rs pad a.
    rw c.failure.ensures
    (head-fails g.D.Disk.told g.D.Device.failures g.D.Disk.stops_alone alone rs c.args.machine.now c.status.new.self c.text.new.self pad c.in-Ok.status c.in-Err-text.bad c.status.result c.text.result a
    (λ st k x. let y = c.status.ensures st k x in (y.0, y.1, y.2, y.4.alone)) c.in-Ok.is (λ st k x. let y = c.text.ensures st k x in (y.0, y.1, y.2, y.4.alone)) c.in-Err-text.is)

pub returns-in-Err-Gone-clause-counts : goal.returns-in-Err-Gone-clause-counts
returns-in-Err-Gone-clause-counts g c = λ alone rs pad a.
    let gone : c.status.result ≡ Err bad.Gone = cc (c.in-Err-Gone.is, c.in-Err-Gone.field-0-is) in
    err-counts g.D.Disk.told g.D.Device.failures g.D.Disk.stops_alone alone rs c.args.machine.now c.status.new.self pad ReadStatus (λ x. StatusAnswer (status_of x)) c.status.result bad.Gone a
    (λ st k x. let y = c.status.ensures st k x in (y.0, y.1, y.2, y.4.alone)) gone

pub returns-in-Err-clause-counts : goal.returns-in-Err-clause-counts
returns-in-Err-clause-counts g c = λ alone rs pad a.
    rw c.failure-in-Err.ensures
    (reads-fails g.D.Disk.told g.D.Device.failures g.D.Disk.stops_alone alone rs c.args.machine.now c.status.new.self pad ReadStatus (λ x. StatusAnswer (status_of x)) c.status.result c.in-Err.bad a
    (λ st k x. let y = c.status.ensures st k x in (y.0, y.1, y.2, y.4.alone)) c.in-Err.is)

pub returns-in-Err-JournalFull-clause-told : goal.returns-in-Err-JournalFull-clause-told
returns-in-Err-JournalFull-clause-told g c = λ alone rs pad a.
    let full : c.status.result ≡ Err (bad.JournalFull c.in-Err-JournalFull.bytes) = cc c.in-Err-JournalFull.is in
    head-shut g.D.Disk.told g.D.Device.failures g.D.Disk.stops_alone alone rs c.args.machine.now c.status.new.self pad c.in-Err-JournalFull.bytes c.status.result a
    (λ st k x. let y = c.status.ensures st k x in (y.0, y.1, y.2, y.4.alone)) full

pub returns-in-Err-JournalFull-clause-counts : goal.returns-in-Err-JournalFull-clause-counts
returns-in-Err-JournalFull-clause-counts g c = λ alone rs pad a.
    let full : c.status.result ≡ Err (bad.JournalFull c.in-Err-JournalFull.bytes) = cc c.in-Err-JournalFull.is in
    err-counts g.D.Disk.told g.D.Device.failures g.D.Disk.stops_alone alone rs c.args.machine.now c.status.new.self pad ReadStatus (λ x. StatusAnswer (status_of x)) c.status.result (bad.JournalFull c.in-Err-JournalFull.bytes) a
    (λ st k x. let y = c.status.ensures st k x in (y.0, y.1, y.2, y.4.alone)) full

pub returns-in-Err-Gone-clause-told : goal.returns-in-Err-Gone-clause-told
returns-in-Err-Gone-clause-told g c = λ alone rs pad a.
    let gone : c.status.result ≡ Err bad.Gone = cc (c.in-Err-Gone.is, c.in-Err-Gone.field-0-is) in
    head-off g.D.Disk.told g.D.Device.failures g.D.Disk.stops_alone alone rs c.args.machine.now c.status.new.self pad c.status.result a (λ st k x. let y = c.status.ensures st k x in (y.0, y.1, y.2, y.4.alone)) gone

pub returns-in-Err-clause-told : goal.returns-in-Err-clause-told
returns-in-Err-clause-told g c = λ alone rs pad a. subst IsFailure (sym c.failure-in-Err.ensures) (failed-fails c.in-Err.bad)
