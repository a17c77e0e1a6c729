use Rattle.std.proofs.Common.{subst}
use Rattle.std.specs.Prelude.{MatchResult}
use Rattle.ep_world.specs.Failing.{IsFailure}
use Rattle.ep_world.specs.Taking.{Brings}
use Rattle.ep_world.specs.Counting.{Counts}
use Rattle.ep_world.proofs.Counting.{counts-from}
use Rattle.ep_world.proofs.Ending.{brings-at}
use Rattle.ep_world.proofs.taking.bring_or_leave.Goals as goal

pub returns-in-Ok-clause-settles : goal.returns-in-Ok-clause-settles
returns-in-Ok-clause-settles g c = λ alone rs pad msg e s.
    c.leave_unless_made.ensures.settles alone rs pad msg c.args.now
    (subst (λ r. MatchResult r (Brings g.D.Disk.told g.D.Device.failures g.D.Disk.stops_alone alone rs pad c.args.session msg c.args.now c.bring.new.machine) IsFailure) c.in-Ok.is (c.bring.ensures.brings alone rs pad msg e s))

pub returns-in-Err-clause-settles : goal.returns-in-Err-clause-settles
returns-in-Err-clause-settles g c = λ alone rs pad msg e s.
    subst (λ r. MatchResult r (Brings g.D.Disk.told g.D.Device.failures g.D.Disk.stops_alone alone rs pad c.args.session msg c.args.now c.bring.new.machine) IsFailure) c.in-Err.is (c.bring.ensures.brings alone rs pad msg e s)

pub returns-in-Ok-clause-counts : goal.returns-in-Ok-clause-counts
returns-in-Ok-clause-counts g c = λ alone rs pad msg e a.
    let before = g.D.Device.failures c.args.machine.now.disk in
    let mid = g.D.Device.failures c.bring.new.machine.disk in
    let first = subst (λ r. Counts before mid r) c.in-Ok.is (c.bring.ensures.counts alone rs pad a) in
    let b = subst (λ r. MatchResult r (Brings g.D.Disk.told g.D.Device.failures g.D.Disk.stops_alone alone rs pad c.args.session msg c.args.now c.bring.new.machine) IsFailure) c.in-Ok.is (c.bring.ensures.brings alone rs pad msg e a) in
    let at = brings-at g.D.Disk.told g.D.Device.failures g.D.Disk.stops_alone alone rs pad c.args.session msg c.args.now c.bring.new.machine c.in-Ok.took b in
    counts-from before mid _ c.leave_unless_made.result first (c.leave_unless_made.ensures.counts alone at.0 at.1 at.2)

pub returns-in-Err-clause-counts : goal.returns-in-Err-clause-counts
returns-in-Err-clause-counts g c = λ alone rs pad msg e a.
    subst (λ r. Counts (g.D.Device.failures c.args.machine.now.disk) (g.D.Device.failures c.bring.new.machine.disk) r) c.in-Err.is (c.bring.ensures.counts alone rs pad a)
