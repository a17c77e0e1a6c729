use Rattle.std.proofs.Common.{refl, ◌≡◌, ◌∙◌, true, take, sym, subst, arith}
use Rattle.std.proofs.lemmas.Result.{err_from_is_err_and}
use Rattle.ep_history.specs.Records.{told, unopened}
use Rattle.ep_pad_file.specs.Refusals.{ReadRefused}
use Rattle.ep_pad_file.specs.Standing.{Holds}
use Rattle.ep_pad_state.specs.Held.{IsPad}
use Rattle.ep_outside.specs.Disk.{IsImage}
use Rattle.ep_outside.proofs.Moments.{started}
use Rattle.ep_pad.proofs.Crashing.{images-on}
use Rattle.ep_pad.proofs.Causes.{later-refused, read-fault, read-refused}
use Rattle.ep_pad.proofs.Fronts.{all-read, bad-bytes, bad-next, below-count, none-read, one-read, record-at}
use Rattle.ep_pad.proofs.Rereading.{marks-on, next-at, told-at, never-false, taken-in}
use Rattle.ep_pad.proofs.Waking.{fault-from}
use Rattle.ep_pad.proofs.opening.reread.Goals as goal

pub returns-in_err-record-clause-own : goal.returns-in_err-record-clause-own
returns-in_err-record-clause-own g c rs h legal =
    let p = err_from_is_err_and c.from_residual.result c.from_residual.ensures.1 in
    let held = subst (λ t. Holds t rs) (sym c.loop-i.invariant.2) h in
    let fault = read-fault _ _ _ _ _ _ _ _ c.in_err-record.ensures.refused (λ k. c.in_err-record.ensures.own rs k held) in
    rw (p.1, p.2) (fault-from _ _ _ _ c.loop-i.invariant.5 fault)

pub returns-then-not-branch-clause-own : goal.returns-then-not-branch-clause-own
returns-then-not-branch-clause-own g c rs h legal =
    let held = subst (λ t. Holds t rs) (sym c.loop-i.invariant.2) h in
    let next = next-at (unopened c.args.limits) rs c.loop-i.i _ legal (c.in_ok-record.ensures.records rs held) in
    let again = c.in_ok-next.ensures (told c.args.limits (take c.loop-i.i rs)) (c.loop-i.invariant.0 rs h legal) in
    let yes : c.in_ok-next.field-0 ≡ true = never-false _ _ _ _ again next in
    let no = c.if-not-branch.true in
    absurd (cc)

pub loop-i-preserved : goal.loop-i-preserved
loop-i-preserved g c = (
  λ rs h legal.
      let held = subst (λ t. Holds t rs) (sym c.loop-i.invariant.2) h in
      let is = c.in_ok-record.ensures.records rs held in
      let again = c.in_ok-next.ensures (told c.args.limits (take c.loop-i.i rs)) (c.loop-i.invariant.0 rs h legal) in
      subst (IsPad c.next.new.self) (sym (told-at (unopened c.args.limits) rs c.loop-i.i _ is))
      (taken-in _ _ _ _ again (next-at (unopened c.args.limits) rs c.loop-i.i _ legal is)),
  c.in_ok-record.ensures.ready,
  c.in_ok-record.ensures.told ∙ c.loop-i.invariant.2,
  c.in_ok-record.ensures.same.0 ∙ c.loop-i.invariant.3,
  c.in_ok-record.ensures.same.2 ∙ c.loop-i.invariant.4,
  let a = c.loop-i.invariant.5 in let b = c.in_ok-record.ensures.later in omega (arith, a, b),
  λ k is.
      let same = c.loop-i.invariant.2 ∙ is in
      one-read c.args.limits k.seen _ _ c.loop-i.i _ _ (below-count k c.loop-i.i _ _ _ _ is c.requires.held c.count-i-end.ensures.value c.loop-i-test.true) (c.loop-i.invariant.6 k is)
      (record-at k c.loop-i.i _ _ same c.in_ok-record.ensures.value) c.in_ok-next.ensures (let no = c.if-not-branch.false in cc),
  marks-on c.loop-i.invariant.7 c.in_ok-record.ensures.marks,
  images-on g.D.Disk.moment g.D.Disk.since g.D.Disk.told _ _ _ c.loop-i.invariant.2 c.loop-i.invariant.8 c.in_ok-record.ensures.images,
)

pub loop-i-init : goal.loop-i-init
loop-i-init g c = (λ rs h legal. c.unopened-pad.ensures, c.requires, refl, refl, refl, omega arith, λ k is. none-read _ _ _ c.unopened-pad.ensures, record { steady = refl; alone = refl; unstopped = λ none. none }, started g.D.Disk.moment g.D.Disk.since _ (IsImage (g.D.Disk.told c.args.file.now.journal.disk)) (λ image now. g.met.D.Disk.only_now _ image now))

pub returns-in_err-record-clause-bad : goal.returns-in_err-record-clause-bad
returns-in_err-record-clause-bad g c k n is =
    let p = err_from_is_err_and c.from_residual.result c.from_residual.ensures.1 in
    let refused = c.in_err-record.ensures.refused in
    rw (p.1, p.2) (λ bad.
    let why = subst (ReadRefused _ _ _ _ _ _ _) bad refused in
    bad-bytes c.args.limits k _ c.loop-i.i n _ (below-count k c.loop-i.i _ _ _ _ is c.requires.held c.count-i-end.ensures.value c.loop-i-test.true) (c.loop-i.invariant.6 k is) (c.loop-i.invariant.2 ∙ is) why.1 why.0)

pub returns-then-not-branch-clause-bad : goal.returns-then-not-branch-clause-bad
returns-then-not-branch-clause-bad g c k n is bad =
    bad-next c.args.limits k.seen _ _ c.loop-i.i n _ _ (below-count k c.loop-i.i _ _ _ _ is c.requires.held c.count-i-end.ensures.value c.loop-i-test.true) (c.loop-i.invariant.6 k is) (record-at k c.loop-i.i _ _ (c.loop-i.invariant.2 ∙ is) c.in_ok-record.ensures.value)
    c.in_ok-next.ensures (let no = c.if-not-branch.true in cc) (cc)

pub returns-clause-found : goal.returns-clause-found
returns-clause-found g c k is =
    all-read c.args.limits k _ c.loop-i.i _ _ _ (c.loop-i.invariant.6 k is) is c.requires.held (let at = c.count-i-end.ensures.value in omega (arith, at))

pub returns-in_err-record-clause-refused : goal.returns-in_err-record-clause-refused
returns-in_err-record-clause-refused g c =
    let p = err_from_is_err_and c.from_residual.result c.from_residual.ensures.1 in
    rw (p.1, p.2) (later-refused _ _ _ _ c.loop-i.invariant.5 (read-refused _ _ _ _ _ _ _ _ c.in_err-record.ensures.refused))

pub returns-in_err-record-clause-images : goal.returns-in_err-record-clause-images
returns-in_err-record-clause-images g c = images-on g.D.Disk.moment g.D.Disk.since g.D.Disk.told _ _ _ c.loop-i.invariant.2 c.loop-i.invariant.8 c.in_err-record.ensures.images

pub returns-in_err-next-clause-images : goal.returns-in_err-next-clause-images
returns-in_err-next-clause-images g c = images-on g.D.Disk.moment g.D.Disk.since g.D.Disk.told _ _ _ c.loop-i.invariant.2 c.loop-i.invariant.8 c.in_ok-record.ensures.images

pub returns-then-not-branch-clause-images : goal.returns-then-not-branch-clause-images
returns-then-not-branch-clause-images g c = images-on g.D.Disk.moment g.D.Disk.since g.D.Disk.told _ _ _ c.loop-i.invariant.2 c.loop-i.invariant.8 c.in_ok-record.ensures.images

pub returns-clause-images : goal.returns-clause-images
returns-clause-images g c = c.loop-i.invariant.8

pub returns-in_err-record-clause-unfilled : goal.returns-in_err-record-clause-unfilled
returns-in_err-record-clause-unfilled g c n =
    let p = err_from_is_err_and c.from_residual.result c.from_residual.ensures.1 in
    let refused = c.in_err-record.ensures.refused in
    rw (p.1, p.2) (λ full. subst (ReadRefused _ _ _ _ _ _ _) full refused)
