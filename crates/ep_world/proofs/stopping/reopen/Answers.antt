use Rattle.std.proofs.Common.{◌≡◌, ◌∙◌, Err, subst}
use Rattle.std.specs.Prelude.{MatchResult}
use Rattle.ep_history.specs.Machine.{MachineState}
use Rattle.ep_history.specs.declared.pad_bad.PadBad.TheVariants as bad
use Rattle.ep_pad.specs.Opening.{IsWoken, Sleeps, stopped}
use Rattle.ep_pad.specs.Standing.{Stands}
use Rattle.ep_world.proofs.Crashes.{reopens, sleeps}
use Rattle.ep_world.proofs.Ending.{asleep-later, reopened-later, unopened-caused}
use Rattle.ep_world.proofs.stopping.reopen.Goals as goal

pub returns-in-Ok-clause-reopens : goal.returns-in-Ok-clause-reopens
returns-in-Ok-clause-reopens g c = λ alone st k s m.
    let r = c.in-Ok.ensures.restarts st k s in
    reopens g.D.Disk.told g.D.Device.failures g.D.Disk.stops_alone alone c.restart.new.self st r.0 k r.1 r.2 (c.in-Ok.ensures.alone ∙ m)

pub returns-in-Err-JournalFull-clause-reopens : goal.returns-in-Err-JournalFull-clause-reopens
returns-in-Err-JournalFull-clause-reopens g c = λ alone st k s m.
    let full : c.restart.result ≡ Err (bad.JournalFull c.in-Err-JournalFull.field-0-0) = cc (c.in-Err-JournalFull.is, c.in-Err-JournalFull.field-0-is) in
    let r = subst
    (λ r. MatchResult r (λ _. (mid : MachineState) × IsWoken (stopped st) mid × Stands g.D.Disk.told g.D.Device.failures c.restart.new.self mid)
    (λ b. (next : MachineState) × Sleeps (stopped st) b next × Stands g.D.Disk.told g.D.Device.failures c.restart.new.self next)) full (c.restart.ensures.restarts st k s) in
    sleeps g.D.Disk.told g.D.Device.failures g.D.Disk.stops_alone alone c.restart.new.self st r.0 c.in-Err-JournalFull.field-0-0 k r.1 r.2 (c.restart.ensures.alone ∙ m)

pub returns-in-Ok-clause-counts : goal.returns-in-Ok-clause-counts
returns-in-Ok-clause-counts g c = λ alone rs pad a.
    reopened-later g.D.Disk.told g.D.Device.failures g.D.Disk.stops_alone alone rs c.args.machine.now c.restart.new.self pad a (c.in-Ok.ensures.restarts a.state a.kept a.stands)

pub returns-in-Err-JournalFull-clause-counts : goal.returns-in-Err-JournalFull-clause-counts
returns-in-Err-JournalFull-clause-counts g c = λ alone rs pad a.
    let full : c.restart.result ≡ Err (bad.JournalFull c.in-Err-JournalFull.field-0-0) = cc (c.in-Err-JournalFull.is, c.in-Err-JournalFull.field-0-is) in
    asleep-later g.D.Disk.told g.D.Device.failures g.D.Disk.stops_alone alone rs c.args.machine.now c.restart.new.self pad c.in-Err-JournalFull.field-0-0 a
    (subst
    (λ r. MatchResult r (λ _. (mid : MachineState) × IsWoken (stopped a.state) mid × Stands g.D.Disk.told g.D.Device.failures c.restart.new.self mid)
    (λ b. (next : MachineState) × Sleeps (stopped a.state) b next × Stands g.D.Disk.told g.D.Device.failures c.restart.new.self next)) full
    (c.restart.ensures.restarts a.state a.kept a.stands))

pub returns-in-Err-clause-counts : goal.returns-in-Err-clause-counts
returns-in-Err-clause-counts g c = λ alone rs pad a.
    rw c.failure.ensures (unopened-caused g.D.Disk.told g.D.Device.failures g.D.Disk.stops_alone alone rs c.args.machine.now c.restart.new.self pad c.in-Err.bad a (c.in-Err.ensures.restarts a.state a.kept a.stands))
