use Rattle.std.proofs.Common.{◌≡◌, true, false, not, Ok, ap, ◌∙◌, subst, arith}
use Rattle.std.specs.Prelude.{MatchResult}
use Rattle.ep_history.specs.Pad.{leave}
use Rattle.ep_world.specs.Failing.{IsFailure}
use Rattle.ep_world.specs.Journal.{is_shut}
use Rattle.ep_world.specs.Standing.{IsAt}
use Rattle.ep_world.specs.Taking.{Brings}
use Rattle.ep_world.specs.Counting.{Counts}
use Rattle.ep_world.proofs.Brought.{room-at, room-settles, shut-settles}
use Rattle.ep_world.proofs.taking.leave_unless_made.Goals as goal

pub returns-in-Made-clause-settles : goal.returns-in-Made-clause-settles
returns-in-Made-clause-settles g c = λ alone rs pad msg now b. subst (Brings g.D.Disk.told g.D.Device.failures g.D.Disk.stops_alone alone rs pad c.args.session msg now c.args.machine.now) c.in-Made.is b

pub returns-in-Shut-clause-settles : goal.returns-in-Shut-clause-settles
returns-in-Shut-clause-settles g c = λ alone rs pad msg now b. absurd (subst (Brings g.D.Disk.told g.D.Device.failures g.D.Disk.stops_alone alone rs pad c.args.session msg now c.args.machine.now) c.in-Shut.is b)

pub returns-in-Ok-clause-settles : goal.returns-in-Ok-clause-settles
returns-in-Ok-clause-settles g c = λ alone rs pad msg now b.
    let x = subst (Brings g.D.Disk.told g.D.Device.failures g.D.Disk.stops_alone alone rs pad c.args.session msg now c.args.machine.now) c.in-Refused.is b in
    let t = subst (λ r. MatchResult r (λ is_open. (is_open ≡ not (is_shut rs pad)) × IsAt g.D.Disk.told g.D.Device.failures g.D.Disk.stops_alone alone rs c.give_leave.new.machine (leave pad c.args.session)) IsFailure) c.in-Ok.is (c.give_leave.ensures.leaves alone rs pad x.3) in
    (x.0, x.1, x.2, t.1, x.4)

pub returns-in-Err-clause-settles : goal.returns-in-Err-clause-settles
returns-in-Err-clause-settles g c = λ alone rs pad msg now b.
    let x = subst (Brings g.D.Disk.told g.D.Device.failures g.D.Disk.stops_alone alone rs pad c.args.session msg now c.args.machine.now) c.in-Refused.is b in
    subst (λ r. MatchResult r (λ is_open. (is_open ≡ not (is_shut rs pad)) × IsAt g.D.Disk.told g.D.Device.failures g.D.Disk.stops_alone alone rs c.give_leave.new.machine (leave pad c.args.session)) IsFailure) c.in-Err.is (c.give_leave.ensures.leaves alone rs pad x.3)

pub returns-in-Ok-true-clause-settles : goal.returns-in-Ok-true-clause-settles
returns-in-Ok-true-clause-settles g c = λ alone rs pad msg now b.
    let x = subst (Brings g.D.Disk.told g.D.Device.failures g.D.Disk.stops_alone alone rs pad c.args.session msg now c.args.machine.now) c.in-NoRoom.is b in
    let a = room-at g.D.Disk.told g.D.Device.failures g.D.Disk.stops_alone alone rs pad c.args.session msg now c.args.machine.now c.in-NoRoom.bytes x in
    let is : c.give_leave-in-NoRoom.result ≡ Ok true = c.in-Ok-true.is ∙ ap Ok c.in-Ok-true.field-0-test in
    let t = subst (λ r. MatchResult r (λ is_open. (is_open ≡ not (is_shut rs pad)) × IsAt g.D.Disk.told g.D.Device.failures g.D.Disk.stops_alone alone rs c.give_leave-in-NoRoom.new.machine (leave pad c.args.session)) IsFailure) is (c.give_leave-in-NoRoom.ensures.leaves alone rs pad a) in
    room-settles g.D.Disk.told g.D.Device.failures g.D.Disk.stops_alone alone rs pad c.args.session msg now c.args.machine.now c.give_leave-in-NoRoom.new.machine c.in-NoRoom.bytes x t.0 t.1

pub returns-in-Ok-false-clause-settles : goal.returns-in-Ok-false-clause-settles
returns-in-Ok-false-clause-settles g c = λ alone rs pad msg now b.
    let x = subst (Brings g.D.Disk.told g.D.Device.failures g.D.Disk.stops_alone alone rs pad c.args.session msg now c.args.machine.now) c.in-NoRoom.is b in
    let a = room-at g.D.Disk.told g.D.Device.failures g.D.Disk.stops_alone alone rs pad c.args.session msg now c.args.machine.now c.in-NoRoom.bytes x in
    let is : c.give_leave-in-NoRoom.result ≡ Ok false = c.in-Ok-false.is ∙ ap Ok c.in-Ok-false.field-0-test in
    let t = subst (λ r. MatchResult r (λ is_open. (is_open ≡ not (is_shut rs pad)) × IsAt g.D.Disk.told g.D.Device.failures g.D.Disk.stops_alone alone rs c.give_leave-in-NoRoom.new.machine (leave pad c.args.session)) IsFailure) is (c.give_leave-in-NoRoom.ensures.leaves alone rs pad a) in
    shut-settles g.D.Disk.told g.D.Device.failures g.D.Disk.stops_alone alone rs pad c.args.session msg now c.args.machine.now c.give_leave-in-NoRoom.new.machine c.in-NoRoom.bytes x t.0 t.1

pub returns-in-Err-give_leave-clause-settles : goal.returns-in-Err-give_leave-clause-settles
returns-in-Err-give_leave-clause-settles g c = λ alone rs pad msg now b.
    let x = subst (Brings g.D.Disk.told g.D.Device.failures g.D.Disk.stops_alone alone rs pad c.args.session msg now c.args.machine.now) c.in-NoRoom.is b in
    subst (λ r. MatchResult r (λ is_open. (is_open ≡ not (is_shut rs pad)) × IsAt g.D.Disk.told g.D.Device.failures g.D.Disk.stops_alone alone rs c.give_leave-in-NoRoom.new.machine (leave pad c.args.session)) IsFailure) c.in-Err-give_leave.is
    (c.give_leave-in-NoRoom.ensures.leaves alone rs pad (room-at g.D.Disk.told g.D.Device.failures g.D.Disk.stops_alone alone rs pad c.args.session msg now c.args.machine.now c.in-NoRoom.bytes x))

pub returns-in-Made-clause-counts : goal.returns-in-Made-clause-counts
returns-in-Made-clause-counts g c = λ alone rs pad a. omega arith

pub returns-in-Shut-clause-counts : goal.returns-in-Shut-clause-counts
returns-in-Shut-clause-counts g c = λ alone rs pad a. omega arith

pub returns-in-Ok-clause-counts : goal.returns-in-Ok-clause-counts
returns-in-Ok-clause-counts g c = λ alone rs pad a.
    subst (λ r. Counts (g.D.Device.failures c.args.machine.now.disk) (g.D.Device.failures c.give_leave.new.machine.disk) r) c.in-Ok.is (c.give_leave.ensures.counts alone rs pad a)

pub returns-in-Err-clause-counts : goal.returns-in-Err-clause-counts
returns-in-Err-clause-counts g c = λ alone rs pad a.
    subst (λ r. Counts (g.D.Device.failures c.args.machine.now.disk) (g.D.Device.failures c.give_leave.new.machine.disk) r) c.in-Err.is (c.give_leave.ensures.counts alone rs pad a)

pub returns-in-Ok-true-clause-counts : goal.returns-in-Ok-true-clause-counts
returns-in-Ok-true-clause-counts g c = λ alone rs pad a.
    subst (λ r. Counts (g.D.Device.failures c.args.machine.now.disk) (g.D.Device.failures c.give_leave-in-NoRoom.new.machine.disk) r) c.in-Ok-true.is (c.give_leave-in-NoRoom.ensures.counts alone rs pad a)

pub returns-in-Ok-false-clause-counts : goal.returns-in-Ok-false-clause-counts
returns-in-Ok-false-clause-counts g c = λ alone rs pad a.
    subst (λ r. Counts (g.D.Device.failures c.args.machine.now.disk) (g.D.Device.failures c.give_leave-in-NoRoom.new.machine.disk) r) c.in-Ok-false.is (c.give_leave-in-NoRoom.ensures.counts alone rs pad a)

pub returns-in-Err-give_leave-clause-counts : goal.returns-in-Err-give_leave-clause-counts
returns-in-Err-give_leave-clause-counts g c = λ alone rs pad a.
    subst (λ r. Counts (g.D.Device.failures c.args.machine.now.disk) (g.D.Device.failures c.give_leave-in-NoRoom.new.machine.disk) r) c.in-Err-give_leave.is (c.give_leave-in-NoRoom.ensures.counts alone rs pad a)
