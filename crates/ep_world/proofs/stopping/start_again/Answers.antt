use Rattle.std.proofs.Common.{◌≡◌, true, false, Ok, sym, ap, ◌∙◌, subst}
use Rattle.std.specs.Prelude.{MatchResult, IfErr}
use Rattle.ep_world.specs.Counting.{Counts}
use Rattle.ep_world.specs.Failing.{IsFailure}
use Rattle.ep_world.specs.Journal.{is_shut}
use Rattle.ep_world.specs.Standing.{IsAt}
use Rattle.ep_world.proofs.Shut.{opens, shuts}
use Rattle.ep_world.specs.Stopping.{Reopens, Starts}
use Rattle.ep_world.proofs.Counting.{counts-from}
use Rattle.ep_world.proofs.Crashes.{if-ok, opens-whole, shut-starts}
use Rattle.ep_world.proofs.stopping.start_again.Goals as goal

pub returns-in-Ok-true-clause-starts : goal.returns-in-Ok-true-clause-starts
returns-in-Ok-true-clause-starts g c = λ alone rs pad a.
    let is : c.is_shut.result ≡ Ok true = c.in-Ok-true.is ∙ ap Ok c.in-Ok-true.field-0-test in
    let t = subst (λ r. MatchResult r (λ shut. (shut ≡ is_shut rs pad) × IsAt g.D.Disk.told g.D.Device.failures g.D.Disk.stops_alone alone rs c.is_shut.new.machine pad) IsFailure) is (c.is_shut.ensures.tells alone rs pad a) in
    shut-starts g.D.Disk.told g.D.Device.failures g.D.Disk.stops_alone alone c.is_shut.new.machine rs pad (shuts g.D.Disk.told g.D.Device.failures g.D.Disk.stops_alone alone rs c.is_shut.new.machine pad t.1 (sym t.0))

pub returns-in-Ok-false-clause-starts : goal.returns-in-Ok-false-clause-starts
returns-in-Ok-false-clause-starts g c = λ alone rs pad a.
    let is : c.is_shut.result ≡ Ok false = c.in-Ok-false.is ∙ ap Ok c.in-Ok-false.field-0-test in
    let t = subst (λ r. MatchResult r (λ shut. (shut ≡ is_shut rs pad) × IsAt g.D.Disk.told g.D.Device.failures g.D.Disk.stops_alone alone rs c.is_shut.new.machine pad) IsFailure) is (c.is_shut.ensures.tells alone rs pad a) in
    let o = opens g.D.Disk.told g.D.Device.failures g.D.Disk.stops_alone alone rs c.is_shut.new.machine pad t.1 (sym t.0) in
    if-ok c.reopen.result (Reopens g.D.Disk.told g.D.Device.failures g.D.Disk.stops_alone alone o.state c.reopen.new.machine) (Starts g.D.Disk.told g.D.Device.failures g.D.Disk.stops_alone alone rs pad c.reopen.new.machine)
    (opens-whole g.D.Disk.told g.D.Device.failures g.D.Disk.stops_alone alone c.is_shut.new.machine c.reopen.new.machine rs pad o) (c.reopen.ensures.reopens alone o.state o.kept o.stands o.mark)

pub returns-in-Ok-false-clause-counts : goal.returns-in-Ok-false-clause-counts
returns-in-Ok-false-clause-counts g c = λ alone rs pad a.
    let is : c.is_shut.result ≡ Ok false = c.in-Ok-false.is ∙ ap Ok c.in-Ok-false.field-0-test in
    let t = subst (λ r. MatchResult r (λ shut. (shut ≡ is_shut rs pad) × IsAt g.D.Disk.told g.D.Device.failures g.D.Disk.stops_alone alone rs c.is_shut.new.machine pad) IsFailure) is (c.is_shut.ensures.tells alone rs pad a) in
    let before = g.D.Device.failures c.args.machine.now.disk in
    let mid = g.D.Device.failures c.is_shut.new.machine.disk in
    counts-from before mid _ c.reopen.result (subst (λ r. Counts before mid r) is (c.is_shut.ensures.counts alone rs pad a))
    (c.reopen.ensures.counts alone rs pad (opens g.D.Disk.told g.D.Device.failures g.D.Disk.stops_alone alone rs c.is_shut.new.machine pad t.1 (sym t.0)))

pub returns-in-Err-clause-failed : goal.returns-in-Err-clause-failed
returns-in-Err-clause-failed g c = subst (λ r. IfErr r IsFailure) c.in-Err.is c.is_shut.ensures.failed
