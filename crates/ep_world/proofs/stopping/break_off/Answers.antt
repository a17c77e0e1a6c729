use Rattle.std.proofs.Common.{◌≡◌, Err}
use Rattle.ep_history.specs.Entries.Answer.{CommitAnswer}
use Rattle.ep_history.specs.Entries.Entry.{Accept}
use Rattle.ep_history.specs.declared.pad_bad.PadBad.TheVariants as bad
use Rattle.ep_history.specs.Machine.{MachineState}
use Rattle.ep_pad_file.specs.Stopping.{gate_behind, is_kept}
use Rattle.ep_pad.specs.Standing.{Stands, replied}
use Rattle.ep_pad.specs.Stopping.{HasNoRoom, StaysStopped}
use Rattle.ep_step.specs.Telling.{told_by}
use Rattle.ep_world.specs.Stopping.{BreaksOff, Reopens}
use Rattle.ep_world.proofs.Crashes.{behind-full, breaks-first, breaks-full, breaks-none, breaks-unread, if-ok, not-lacking}
use Rattle.ep_world.proofs.Ending.{breaks-counts, breaks-fails, broken-later, shut-later, unheard-counts}
use Rattle.ep_world.proofs.stopping.break_off.Goals as goal

pub returns-in_default-clause-breaks : goal.returns-in_default-clause-breaks
returns-in_default-clause-breaks g c = λ alone rs pad message e a.
    if-ok c.reopen.result
    (Reopens g.D.Disk.told g.D.Device.failures g.D.Disk.stops_alone alone a.state c.reopen.new.machine)
    (BreaksOff g.D.Disk.told g.D.Device.failures g.D.Disk.stops_alone alone rs pad c.args.now message c.args.calls c.args.image c.reopen.new.machine)
    (breaks-none g.D.Disk.told g.D.Device.failures g.D.Disk.stops_alone alone c.args.machine.now c.reopen.new.machine rs pad c.args.now message c.args.first c.args.calls c.args.image e c.in_default.is a)
    (c.reopen.ensures.reopens alone a.state a.kept a.stands a.mark)

pub returns-in_default-change-clause-breaks : goal.returns-in_default-change-clause-breaks
returns-in_default-change-clause-breaks g c = λ alone rs pad message e a.
    let r = c.reopen-in_default-change in
    if-ok r.result
    (Reopens g.D.Disk.told g.D.Device.failures g.D.Disk.stops_alone alone a.state r.new.machine)
    (BreaksOff g.D.Disk.told g.D.Device.failures g.D.Disk.stops_alone alone rs pad c.args.now message c.args.calls c.args.image r.new.machine)
    (breaks-unread g.D.Disk.told g.D.Device.failures g.D.Disk.stops_alone alone c.args.machine.now r.new.machine rs pad c.args.now message c.args.first c.in-Some.session c.in-Some.sent
    c.in_default-change.field-0 c.args.calls c.args.image e c.in-Some.is c.in_default-change.is a)
    (r.ensures.reopens alone a.state a.kept a.stands a.mark)

pub returns-in-Ok-accept_stopped-clause-breaks : goal.returns-in-Ok-accept_stopped-clause-breaks
returns-in-Ok-accept_stopped-clause-breaks g c = λ alone rs pad message e a.
    let t = c.in-Ok-accept_stopped in
    let new = c.accept_stopped.new.self in
    if-ok c.unheard.result (t.taken ≡ Err bad.NoMemory → ⊥)
    (BreaksOff g.D.Disk.told g.D.Device.failures g.D.Disk.stops_alone alone rs pad c.args.now message c.args.calls c.args.image new)
    (λ heard.
    breaks-first g.D.Disk.told g.D.Device.failures g.D.Disk.stops_alone alone c.args.machine.now new rs pad c.args.now message c.args.first c.in-Some.session c.in-Some.sent c.in-Ok.change
    (replied (λ x. CommitAnswer (told_by x)) t.taken) c.args.calls c.args.image e c.in-Some.is c.in-Ok.is c.ops-normal.ensures.normal a (c.accept_stopped.ensures.alone a.state a.kept a.stands)
    (not-lacking (λ x. CommitAnswer (told_by x)) t.taken heard) (t.ensures.steps a.state a.kept a.stands) (λ m. t.ensures.stops a.state a.kept a.stands m))
    c.unheard.ensures.heard

pub returns-in-Err-JournalFull-clause-breaks : goal.returns-in-Err-JournalFull-clause-breaks
returns-in-Err-JournalFull-clause-breaks g c = λ alone rs pad message e a.
    let full : c.accept_stopped.result ≡ Err (bad.JournalFull c.in-Err-JournalFull.field-0-0) = cc (c.in-Err-JournalFull.is, c.in-Err-JournalFull.field-0-is) in
    breaks-full g.D.Disk.told g.D.Device.failures g.D.Disk.stops_alone alone c.args.machine.now c.accept_stopped.new.self rs pad c.args.now message c.args.first c.in-Some.session c.in-Some.sent c.in-Ok.change
    c.in-Err-JournalFull.field-0-0 c.args.calls c.args.image e c.in-Some.is c.in-Ok.is c.ops-normal.ensures.normal a (c.accept_stopped.ensures.alone a.state a.kept a.stands)
    (behind-full (λ b. (next : MachineState) × StaysStopped a.state (Accept c.in-Some.session c.in-Some.sent.base c.in-Ok.change c.args.now) b next × Stands g.D.Disk.told g.D.Device.failures c.accept_stopped.new.self next) c.accept_stopped.result (bad.JournalFull c.in-Err-JournalFull.field-0-0) full (c.accept_stopped.ensures.shut a.state c.in-Err-JournalFull.field-0-0 a.kept a.stands))
    (λ m. behind-full (λ b. (next : MachineState) × HasNoRoom a.state (Accept c.in-Some.session c.in-Some.sent.base c.in-Ok.change c.args.now) (λ mid. is_kept (gate_behind mid.records) c.args.calls c.args.image) b next × Stands g.D.Disk.told g.D.Device.failures c.accept_stopped.new.self next) c.accept_stopped.result (bad.JournalFull c.in-Err-JournalFull.field-0-0) full (c.accept_stopped.ensures.full a.state c.in-Err-JournalFull.field-0-0 a.kept a.stands m))

pub returns-in_default-clause-counts : goal.returns-in_default-clause-counts
returns-in_default-clause-counts g c = λ alone rs pad a. breaks-counts alone _ _ c.reopen.result (c.reopen.ensures.counts alone rs pad a)

pub returns-in_default-change-clause-counts : goal.returns-in_default-change-clause-counts
returns-in_default-change-clause-counts g c = λ alone rs pad a. breaks-counts alone _ _ c.reopen-in_default-change.result (c.reopen-in_default-change.ensures.counts alone rs pad a)

pub returns-in-Ok-accept_stopped-clause-counts : goal.returns-in-Ok-accept_stopped-clause-counts
returns-in-Ok-accept_stopped-clause-counts g c = λ alone rs pad a.
    let t = c.in-Ok-accept_stopped in
    unheard-counts alone _ _ c.unheard.result
    (broken-later g.D.Disk.told g.D.Device.failures g.D.Disk.stops_alone alone rs c.args.machine.now c.accept_stopped.new.self pad (Accept c.in-Some.session c.in-Some.sent.base c.in-Ok.change c.args.now) (replied (λ x. CommitAnswer (told_by x)) t.taken) a (t.ensures.steps a.state a.kept a.stands)) c.unheard.ensures.memory

pub returns-in-Err-JournalFull-clause-counts : goal.returns-in-Err-JournalFull-clause-counts
returns-in-Err-JournalFull-clause-counts g c = λ alone rs pad a.
    let full : c.accept_stopped.result ≡ Err (bad.JournalFull c.in-Err-JournalFull.field-0-0) = cc (c.in-Err-JournalFull.is, c.in-Err-JournalFull.field-0-is) in
    shut-later g.D.Disk.told g.D.Device.failures g.D.Disk.stops_alone alone rs c.args.machine.now c.accept_stopped.new.self pad (Accept c.in-Some.session c.in-Some.sent.base c.in-Ok.change c.args.now) a
    c.in-Err-JournalFull.field-0-0 (behind-full (λ b. (next : MachineState) × StaysStopped a.state (Accept c.in-Some.session c.in-Some.sent.base c.in-Ok.change c.args.now) b next × Stands g.D.Disk.told g.D.Device.failures c.accept_stopped.new.self next) c.accept_stopped.result (bad.JournalFull c.in-Err-JournalFull.field-0-0) full (c.accept_stopped.ensures.shut a.state c.in-Err-JournalFull.field-0-0 a.kept a.stands))

pub returns-in-Err-clause-counts : goal.returns-in-Err-clause-counts
returns-in-Err-clause-counts g c = λ alone rs pad a.
    rw c.failure.ensures
    (breaks-fails g.D.Disk.told g.D.Device.failures g.D.Disk.stops_alone alone rs c.args.machine.now c.accept_stopped.new.self pad (Accept c.in-Some.session c.in-Some.sent.base c.in-Ok.change c.args.now) a c.in-Err.bad
    (λ m. c.in-Err.ensures.stops a.state a.kept a.stands m))
