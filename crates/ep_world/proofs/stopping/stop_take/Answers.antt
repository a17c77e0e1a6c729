use Rattle.std.proofs.Common.{◌≡◌, Bool, true, false, Ok, Err, sym, ap, ◌∙◌, subst}
use Rattle.std.specs.Prelude.{MatchResult, IfErr}
use Rattle.ep_world.specs.Counting.{Counts}
use Rattle.ep_world.specs.Failing.{IsFailure}
use Rattle.ep_world.specs.Journal.{is_shut}
use Rattle.ep_world.specs.Standing.{IsAt}
use Rattle.ep_world.proofs.Shut.{opens, shuts}
use Rattle.ep_world.proofs.Crashes.{breaks-shut}
use Rattle.ep_world.proofs.Ending.{breaks-counts, breaks-from}
use Rattle.ep_world.proofs.stopping.stop_take.Goals as goal

pub returns-in-Ok-true-clause-breaks : goal.returns-in-Ok-true-clause-breaks
returns-in-Ok-true-clause-breaks g c = λ alone rs pad message e a.
    let is : c.is_shut.result ≡ Ok true = c.in-Ok-true.is ∙ ap Ok c.in-Ok-true.field-0-test in
    let t = subst (λ r. MatchResult r (λ shut. (shut ≡ is_shut rs pad) × IsAt g.D.Disk.told g.D.Device.failures g.D.Disk.stops_alone alone rs c.is_shut.new.machine pad) IsFailure) is (c.is_shut.ensures.tells alone rs pad a) in
    breaks-shut g.D.Disk.told g.D.Device.failures g.D.Disk.stops_alone alone c.is_shut.new.machine rs pad c.args.now message c.args.calls c.args.image (shuts g.D.Disk.told g.D.Device.failures g.D.Disk.stops_alone alone rs c.is_shut.new.machine pad t.1 (sym t.0))

pub returns-in-Ok-true-clause-counts : goal.returns-in-Ok-true-clause-counts
returns-in-Ok-true-clause-counts g c = λ alone rs pad a.
    let is : c.is_shut.result ≡ Ok true = c.in-Ok-true.is ∙ ap Ok c.in-Ok-true.field-0-test in
    subst (λ r. Counts (g.D.Device.failures c.args.machine.now.disk) (g.D.Device.failures c.is_shut.new.machine.disk) r) is (c.is_shut.ensures.counts alone rs pad a)

pub returns-in-Ok-false-clause-breaks : goal.returns-in-Ok-false-clause-breaks
returns-in-Ok-false-clause-breaks g c = λ alone rs pad message e a.
    let is : c.is_shut.result ≡ Ok false = c.in-Ok-false.is ∙ ap Ok c.in-Ok-false.field-0-test in
    let t = subst (λ r. MatchResult r (λ shut. (shut ≡ is_shut rs pad) × IsAt g.D.Disk.told g.D.Device.failures g.D.Disk.stops_alone alone rs c.is_shut.new.machine pad) IsFailure) is (c.is_shut.ensures.tells alone rs pad a) in
    c.break_off.ensures.breaks alone rs pad message e (opens g.D.Disk.told g.D.Device.failures g.D.Disk.stops_alone alone rs c.is_shut.new.machine pad t.1 (sym t.0))

pub returns-in-Ok-false-clause-counts : goal.returns-in-Ok-false-clause-counts
returns-in-Ok-false-clause-counts g c = λ alone rs pad a.
    let is : c.is_shut.result ≡ Ok false = c.in-Ok-false.is ∙ ap Ok c.in-Ok-false.field-0-test in
    let t = subst (λ r. MatchResult r (λ shut. (shut ≡ is_shut rs pad) × IsAt g.D.Disk.told g.D.Device.failures g.D.Disk.stops_alone alone rs c.is_shut.new.machine pad) IsFailure) is (c.is_shut.ensures.tells alone rs pad a) in
    let before = g.D.Device.failures c.args.machine.now.disk in
    let mid = g.D.Device.failures c.is_shut.new.machine.disk in
    breaks-from alone before mid _ c.break_off.result (subst (λ r. Counts before mid r) is (c.is_shut.ensures.counts alone rs pad a))
    (c.break_off.ensures.counts alone rs pad (opens g.D.Disk.told g.D.Device.failures g.D.Disk.stops_alone alone rs c.is_shut.new.machine pad t.1 (sym t.0)))

pub returns-in-Err-clause-failed : goal.returns-in-Err-clause-failed
returns-in-Err-clause-failed g c = subst (λ r. IfErr r IsFailure) c.in-Err.is c.is_shut.ensures.failed

pub returns-in-Err-clause-counts : goal.returns-in-Err-clause-counts
returns-in-Err-clause-counts g c = λ alone rs pad a.
    let before = g.D.Device.failures c.args.machine.now.disk in
    let now = g.D.Device.failures c.is_shut.new.machine.disk in
    breaks-counts {A = Bool} alone before now (Err c.in-Err.bad) (subst (λ r. Counts before now r) c.in-Err.is (c.is_shut.ensures.counts alone rs pad a))
