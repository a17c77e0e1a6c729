use Rattle.std.proofs.Common.{◌≡◌, ◌∙◌, ap, arith, length, subst, sym}
use Rattle.ep_outside.specs.Disk.{Reaches}
use Rattle.ep_outside.specs.Moments.{LeavesOnly}
use Rattle.ep_put.specs.Putting.{IsAllOrNone}
use Rattle.ep_put.proofs.Empty.{holds_all, image_stands, new_told, nine_bytes, tells_it}
use Rattle.ep_put.proofs.putting.put.Goals as goal

pub returns-in-Ok-clause-acknowledged : goal.returns-in-Ok-clause-acknowledged
returns-in-Ok-clause-acknowledged g c k told image left =
    let none : length c.args.journal.gates.items ≡ 0 = omega arith in
    let new = ap g.D.Disk.told c.into_disk-disk.ensures ∙ new_told k _ _ _ told c.requires.ready.held none in
    image_stands _ c.args.revs.now c.args.public _ image (c.in-Ok.ensures.file new) c.in-Ok.ensures.stands left

pub put_on-requires-clause-inside : goal.put_on-requires-clause-inside
put_on-requires-clause-inside g c = subst (λ d. Reaches (g.D.Disk.told d) 9) (sym c.into_disk-disk.ensures) (nine_bytes _ _ _ c.requires.ready.held)

pub returns-in-Ok-clause-holds : goal.returns-in-Ok-clause-holds
returns-in-Ok-clause-holds g c k told =
    let none : length c.args.journal.gates.items ≡ 0 = omega arith in
    let new = ap g.D.Disk.told c.into_disk-disk.ensures ∙ new_told k _ _ _ told c.requires.ready.held none in
    holds_all _ c.args.revs.now c.args.public _ (c.in-Ok.ensures.file new) c.in-Ok.ensures.stands

pub returns-in-Ok-clause-any_moment : goal.returns-in-Ok-clause-any_moment
returns-in-Ok-clause-any_moment g c k told none =
    let new = ap g.D.Disk.told c.into_disk-disk.ensures ∙ new_told k _ _ _ told c.requires.ready.held none in
    subst (λ d. LeavesOnly g.D.Disk.moment g.D.Disk.since d c.put_on.new.disk (IsAllOrNone c.args.revs.now c.args.public)) c.into_disk-disk.ensures (c.put_on.ensures.crash new)

pub returns-in-Ok-clause-tells : goal.returns-in-Ok-clause-tells
returns-in-Ok-clause-tells g c = tells_it c.args.revs.now c.args.public c.requires.revisions c.records_tell_revisions.ensures.legal c.records_tell_revisions.ensures.told

pub returns-then-count-gt0-clause-tells : goal.returns-then-count-gt0-clause-tells
returns-then-count-gt0-clause-tells g c = tells_it c.args.revs.now c.args.public c.requires.revisions c.records_tell_revisions.ensures.legal c.records_tell_revisions.ensures.told
