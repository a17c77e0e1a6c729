use Rattle.std.proofs.Common.{◌∙◌, ◌+◌, ◌<◌, ◌∷◌, [], IfSome, ap, length, length-append, subst, arith, refl, Option, ℕ}
use Rattle.ep_outside.specs.Disk.{Contents, IsImage}
use Rattle.ep_outside.specs.Moments.{LeavesOnly}
use Rattle.ep_outside.proofs.Moments.{joined}
use Rattle.ep_outside.proofs.Stops.{marks_on}
use Rattle.ep_journal.specs.Walking.{SizeOn}
use Rattle.ep_journal.proofs.Counting.{few_gates}
use Rattle.ep_journal.proofs.Keeping.{spaced}
use Rattle.ep_journal.proofs.Gates.{walk_goes_on, walk_ends}
use Rattle.ep_journal.proofs.walking.find_gates.Goals as goal

pub loop-gates-preserved : goal.loop-gates-preserved
loop-gates-preserved g c =
    let disk = g.D.Disk in
    let inv = c.loop-gates.invariant in
    let next = c.loop-gates.gate + (5 + c.in-Some.size) in
    let size = subst (λ (o : Option ℕ). SizeOn (disk.told c.args.disk.now) c.loop-gates.gate c.args.total o) c.in-Some.is
    (subst (λ (t : Option Contents). SizeOn t c.loop-gates.gate c.args.total c.in_ok-size.field-0) inv.same c.in_ok-size.ensures.size) in
    record {
      same = c.size_on.ensures.same ∙ inv.same;
      room = c.size_on.ensures.room ∙ inv.room;
      images = joined disk.moment disk.since _ _ _ (IsImage (disk.told c.args.disk.now)) inv.images (subst (λ (t : Option Contents). LeavesOnly disk.moment disk.since c.loop-gates.disk c.size_on.new.disk (IsImage t)) inv.same c.size_on.ensures.images);
      marks = marks_on _ _ _ _ _ _ inv.marks c.size_on.ensures.marks;
      later = omega (arith, inv.later, c.size_on.ensures.later);
      walks = rw c.in_ok-push.ensures.items (walk_goes_on _ c.args.total c.in-Some.size c.loop-gates.gate next c.loop-gates.gates.items size inv.walks refl);
      spaced = rw c.in_ok-push.ensures.items (spaced c.loop-gates.gates.items c.loop-gates.gate next inv.spaced (omega arith));
      first = omega (arith, inv.first);
      inside = omega (arith, subst (λ (o : Option ℕ). IfSome o (λ n. c.loop-gates.gate + (n + 5) < c.args.total)) c.in-Some.is c.in_ok-size.ensures.whole);
      reads = omega (arith, inv.reads, c.size_on.ensures.reads, ap length c.in_ok-push.ensures.items, length-append c.loop-gates.gates.items (c.loop-gates.gate ∷ []));
    }

pub returns-clause-found : goal.returns-clause-found
returns-clause-found g c =
    let disk = g.D.Disk in
    let inv = c.loop-gates.invariant in
    let size = subst (λ (o : Option ℕ). SizeOn (disk.told c.args.disk.now) c.loop-gates.gate c.args.total o) c.in_default.is
    (subst (λ (t : Option Contents). SizeOn t c.loop-gates.gate c.args.total c.in_ok-size.field-0) inv.same c.in_ok-size.ensures.size) in
    walk_ends _ c.args.total c.loop-gates.gate c.loop-gates.gates.items size inv.walks

pub returns-clause-marks : goal.returns-clause-marks
returns-clause-marks g c = marks_on _ _ _ _ _ _ c.loop-gates.invariant.marks c.size_on.ensures.marks

pub returns-in_err-size-clause-marks : goal.returns-in_err-size-clause-marks
returns-in_err-size-clause-marks g c = marks_on _ _ _ _ _ _ c.loop-gates.invariant.marks c.size_on.ensures.marks

pub returns-in_err-push-clause-marks : goal.returns-in_err-push-clause-marks
returns-in_err-push-clause-marks g c = marks_on _ _ _ _ _ _ c.loop-gates.invariant.marks c.size_on.ensures.marks

pub returns-in_err-size-clause-sure : goal.returns-in_err-size-clause-sure
returns-in_err-size-clause-sure g c alone none failed =
    let ok = c.in_err-size.ensures.sure (c.loop-gates.invariant.marks.alone ∙ alone) (c.loop-gates.invariant.marks.unstopped none) in
    absurd (cc)

pub returns-clause-reads_of_file : goal.returns-clause-reads_of_file
returns-clause-reads_of_file g c k told long =
    let inv = c.loop-gates.invariant in
    omega (arith, inv.reads, c.size_on.ensures.reads, few_gates _ k c.args.total c.loop-gates.gates.items c.loop-gates.gate told long inv.walks)

pub returns-in_err-size-clause-reads_of_file : goal.returns-in_err-size-clause-reads_of_file
returns-in_err-size-clause-reads_of_file g c k told long =
    let inv = c.loop-gates.invariant in
    omega (arith, inv.reads, c.size_on.ensures.reads, few_gates _ k c.args.total c.loop-gates.gates.items c.loop-gates.gate told long inv.walks)

pub returns-in_err-push-clause-reads_of_file : goal.returns-in_err-push-clause-reads_of_file
returns-in_err-push-clause-reads_of_file g c k told long =
    let inv = c.loop-gates.invariant in
    omega (arith, inv.reads, c.size_on.ensures.reads, few_gates _ k c.args.total c.loop-gates.gates.items c.loop-gates.gate told long inv.walks)
