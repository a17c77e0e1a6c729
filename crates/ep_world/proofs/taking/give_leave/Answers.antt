use Rattle.std.proofs.Common.{sym, ap, ◌∙◌, subst, Err, None}
use Rattle.ep_history.specs.Entries.{outcome}
use Rattle.ep_world.specs.Journal.{record_in}
use Rattle.ep_history.specs.Entries.Answer.{Done}
use Rattle.ep_history.specs.Entries.Entry.{Leave}
use Rattle.ep_pad.specs.Standing.{replied}
use Rattle.ep_world.specs.Failing.{IsFailure}
use Rattle.ep_world.specs.Standing.{IsAnswered}
use Rattle.ep_world.proofs.Brought.{failed-fails, is-free, leaves, leaves-dead, leaves-shut}
use Rattle.ep_world.proofs.Calls.{answered}
use Rattle.ep_world.proofs.Counting.{err-counts, ok-counts, reads-fails}
use Rattle.ep_history.specs.declared.pad_bad.PadBad.TheVariants as bad
use Rattle.ep_world.proofs.taking.give_leave.Goals as goal

pub returns-in-Ok-clause-leaves : goal.returns-in-Ok-clause-leaves
returns-in-Ok-clause-leaves g c = λ alone rs pad s.
    let a = (subst (λ r. IsAnswered g.D.Disk.told g.D.Device.failures g.D.Disk.stops_alone alone rs c.args.machine.now pad (Leave c.args.session) (replied (λ _. Done) r) c.leave.new.self) c.in-Ok.is
    (answered g.D.Disk.told g.D.Device.failures g.D.Disk.stops_alone alone rs c.args.machine.now c.leave.new.self pad (Leave c.args.session) (replied (λ _. Done) c.leave.result) s (λ st k x. let y = c.leave.ensures st k x in (y.0, y.1, y.2, y.4.alone)))) in
    (is-free g.D.Disk.told g.D.Device.failures g.D.Disk.stops_alone alone rs c.args.machine.now pad (record_in (outcome pad (Leave c.args.session))) s a.2, leaves g.D.Disk.told g.D.Device.failures g.D.Disk.stops_alone alone rs c.args.machine.now c.leave.new.self pad c.args.session Done a)

pub returns-in-Err-Dead-clause-leaves : goal.returns-in-Err-Dead-clause-leaves
returns-in-Err-Dead-clause-leaves g c = λ alone rs pad s.
    let a = (subst (λ r. IsAnswered g.D.Disk.told g.D.Device.failures g.D.Disk.stops_alone alone rs c.args.machine.now pad (Leave c.args.session) (replied (λ _. Done) r) c.leave.new.self) (c.in-Err-Dead.is ∙ ap Err c.in-Err-Dead.field-0-is)
    (answered g.D.Disk.told g.D.Device.failures g.D.Disk.stops_alone alone rs c.args.machine.now c.leave.new.self pad (Leave c.args.session) (replied (λ _. Done) c.leave.result) s (λ st k x. let y = c.leave.ensures st k x in (y.0, y.1, y.2, y.4.alone)))) in
    (is-free g.D.Disk.told g.D.Device.failures g.D.Disk.stops_alone alone rs c.args.machine.now pad None s a.2, leaves-dead g.D.Disk.told g.D.Device.failures g.D.Disk.stops_alone alone rs c.args.machine.now c.leave.new.self pad c.args.session c.in-Err-Dead.field-0-0 a)

pub returns-in-Err-JournalFull-clause-leaves : goal.returns-in-Err-JournalFull-clause-leaves
returns-in-Err-JournalFull-clause-leaves g c = λ alone rs pad s.
    leaves-shut g.D.Disk.told g.D.Device.failures g.D.Disk.stops_alone alone rs c.args.machine.now c.leave.new.self pad c.args.session c.in-Err-JournalFull.field-0-0 s
    (subst (λ r. IsAnswered g.D.Disk.told g.D.Device.failures g.D.Disk.stops_alone alone rs c.args.machine.now pad (Leave c.args.session) (replied (λ _. Done) r) c.leave.new.self) (c.in-Err-JournalFull.is ∙ ap Err c.in-Err-JournalFull.field-0-is)
    (answered g.D.Disk.told g.D.Device.failures g.D.Disk.stops_alone alone rs c.args.machine.now c.leave.new.self pad (Leave c.args.session) (replied (λ _. Done) c.leave.result) s (λ st k x. let y = c.leave.ensures st k x in (y.0, y.1, y.2, y.4.alone))))

pub returns-in-Err-JournalFull-clause-counts : goal.returns-in-Err-JournalFull-clause-counts
returns-in-Err-JournalFull-clause-counts g c = λ alone rs pad a.
    err-counts g.D.Disk.told g.D.Device.failures g.D.Disk.stops_alone alone rs c.args.machine.now c.leave.new.self pad (Leave c.args.session) (λ _. Done) c.leave.result (bad.JournalFull c.in-Err-JournalFull.field-0-0) a
    (λ st k x. let y = c.leave.ensures st k x in (y.0, y.1, y.2, y.4.alone)) (c.in-Err-JournalFull.is ∙ ap Err c.in-Err-JournalFull.field-0-is)

pub returns-in-Err-clause-leaves : goal.returns-in-Err-clause-leaves
returns-in-Err-clause-leaves g c = λ alone rs pad s. subst IsFailure (sym c.failure.ensures) (failed-fails c.in-Err.bad)

pub returns-in-Ok-clause-counts : goal.returns-in-Ok-clause-counts
returns-in-Ok-clause-counts g c = λ alone rs pad a.
    ok-counts g.D.Disk.told g.D.Device.failures g.D.Disk.stops_alone alone rs c.args.machine.now c.leave.new.self pad (Leave c.args.session) (λ _. Done) c.leave.result _ a
    (λ st k x. let y = c.leave.ensures st k x in (y.0, y.1, y.2, y.4.alone)) c.in-Ok.is

pub returns-in-Err-Dead-clause-counts : goal.returns-in-Err-Dead-clause-counts
returns-in-Err-Dead-clause-counts g c = λ alone rs pad a.
    err-counts g.D.Disk.told g.D.Device.failures g.D.Disk.stops_alone alone rs c.args.machine.now c.leave.new.self pad (Leave c.args.session) (λ _. Done) c.leave.result (bad.Dead c.in-Err-Dead.field-0-0) a
    (λ st k x. let y = c.leave.ensures st k x in (y.0, y.1, y.2, y.4.alone)) (c.in-Err-Dead.is ∙ ap Err c.in-Err-Dead.field-0-is)

pub returns-in-Err-clause-counts : goal.returns-in-Err-clause-counts
returns-in-Err-clause-counts g c = λ alone rs pad a.
    rw c.failure.ensures
    (reads-fails g.D.Disk.told g.D.Device.failures g.D.Disk.stops_alone alone rs c.args.machine.now c.leave.new.self pad (Leave c.args.session) (λ _. Done) c.leave.result c.in-Err.bad a
    (λ st k x. let y = c.leave.ensures st k x in (y.0, y.1, y.2, y.4.alone)) c.in-Err.is)
