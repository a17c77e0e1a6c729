use Rattle.std.proofs.Common.{sym, subst}
use Rattle.ep_history.specs.Entries.Answer.{CommitAnswer}
use Rattle.ep_history.specs.Entries.Entry.{Accept}
use Rattle.ep_step.specs.Telling.{told_by}
use Rattle.ep_pad.specs.Standing.{replied}
use Rattle.ep_world.specs.Standing.{IsAnswered}
use Rattle.ep_world.proofs.Brought.{brought, made-of, not-made-of}
use Rattle.ep_world.proofs.Calls.{answered}
use Rattle.ep_world.proofs.Counting.{err-counts, not-made-counts, ok-counts}
use Rattle.ep_world.proofs.taking.accept.Goals as goal

pub returns-in-Ok-clause-brings : goal.returns-in-Ok-clause-brings
returns-in-Ok-clause-brings g c = λ alone rs pad msg b e i s.
    let a = answered g.D.Disk.told g.D.Device.failures g.D.Disk.stops_alone alone rs c.args.machine.now c.accept.new.self pad (Accept c.args.session c.args.base c.args.change c.args.now) (replied (λ x. CommitAnswer (told_by x)) c.accept.result) s (λ st k x. let y = c.accept.ensures.steps st k x in (y.0, y.1, y.2, y.4.alone)) in
    made-of g.D.Disk.told g.D.Device.failures g.D.Disk.stops_alone alone rs c.args.machine.now c.accept.new.self pad c.args.session msg c.args.now c.args.base c.args.change c.in-Ok.made b e i
    (subst (λ r. IsAnswered g.D.Disk.told g.D.Device.failures g.D.Disk.stops_alone alone rs c.args.machine.now pad (Accept c.args.session c.args.base c.args.change c.args.now) (replied (λ x. CommitAnswer (told_by x)) r) c.accept.new.self) c.in-Ok.is a)

pub returns-in-Err-clause-brings : goal.returns-in-Err-clause-brings
returns-in-Err-clause-brings g c = λ alone rs pad msg b e i s.
    let a = answered g.D.Disk.told g.D.Device.failures g.D.Disk.stops_alone alone rs c.args.machine.now c.accept.new.self pad (Accept c.args.session c.args.base c.args.change c.args.now) (replied (λ x. CommitAnswer (told_by x)) c.accept.result) s (λ st k x. let y = c.accept.ensures.steps st k x in (y.0, y.1, y.2, y.4.alone)) in
    subst (brought g.D.Disk.told g.D.Device.failures g.D.Disk.stops_alone alone rs pad c.args.session msg c.args.now c.accept.new.self) (sym c.not_made.ensures)
    (not-made-of g.D.Disk.told g.D.Device.failures g.D.Disk.stops_alone alone rs c.args.machine.now c.accept.new.self pad c.args.session msg c.args.now c.args.base c.args.change c.in-Err.bad b e i
    (subst (λ r. IsAnswered g.D.Disk.told g.D.Device.failures g.D.Disk.stops_alone alone rs c.args.machine.now pad (Accept c.args.session c.args.base c.args.change c.args.now) (replied (λ x. CommitAnswer (told_by x)) r) c.accept.new.self) c.in-Err.is a))

pub returns-in-Ok-clause-counts : goal.returns-in-Ok-clause-counts
returns-in-Ok-clause-counts g c = λ alone rs pad a.
    ok-counts g.D.Disk.told g.D.Device.failures g.D.Disk.stops_alone alone rs c.args.machine.now c.accept.new.self pad (Accept c.args.session c.args.base c.args.change c.args.now) (λ x. CommitAnswer (told_by x)) c.accept.result c.in-Ok.made a
    (λ st k x. let y = c.accept.ensures.steps st k x in (y.0, y.1, y.2, y.4.alone)) c.in-Ok.is

pub returns-in-Err-clause-counts : goal.returns-in-Err-clause-counts
returns-in-Err-clause-counts g c = λ alone rs pad a.
    rw c.not_made.ensures
    (not-made-counts (g.D.Device.failures c.args.machine.now.disk) (g.D.Device.failures c.accept.new.self.disk) c.in-Err.bad
    (err-counts g.D.Disk.told g.D.Device.failures g.D.Disk.stops_alone alone rs c.args.machine.now c.accept.new.self pad (Accept c.args.session c.args.base c.args.change c.args.now) (λ x. CommitAnswer (told_by x)) c.accept.result c.in-Err.bad a
    (λ st k x. let y = c.accept.ensures.steps st k x in (y.0, y.1, y.2, y.4.alone)) c.in-Err.is))
