use Rattle.ep_journal.proofs.Syncing.{same_synced, on_err, on_err_of}
use Rattle.ep_journal.proofs.Sparing.{the_file}
use Rattle.std.proofs.Common.{◌∙◌, arith}
use Rattle.ep_outside.proofs.Moments.{weaker, joined}
use Rattle.ep_journal.specs.File.{IsMending}
use Rattle.ep_journal.proofs.Repairing.{near_fresh, image_near}
use Rattle.ep_journal.proofs.opening.make_fresh.Goals as goal

pub returns-clause-crash : goal.returns-clause-crash
returns-clause-crash g c file total told =
    joined g.D.Disk.moment g.D.Disk.since _ _ _ (IsMending file)
    (weaker g.D.Disk.moment g.D.Disk.since _ _ _ (IsMending file) (image_near file _ told) c.is_fresh.ensures.images)
    (weaker g.D.Disk.moment g.D.Disk.since _ _ _ (IsMending file) (near_fresh file (omega (arith, total, c.requires.short)) (λ new. absurd (cc (c.in_ok-is_fresh.ensures.known file total told new, c.if-branch.false)))) (c.put.ensures.crash file (c.is_fresh.ensures.same ∙ told) (omega arith)))

pub returns-in_err-is_fresh-clause-crash : goal.returns-in_err-is_fresh-clause-crash
returns-in_err-is_fresh-clause-crash g c file total told =
    weaker g.D.Disk.moment g.D.Disk.since _ _ _ (IsMending file) (image_near file _ told) c.is_fresh.ensures.images

pub returns-then-branch-clause-crash : goal.returns-then-branch-clause-crash
returns-then-branch-clause-crash g c file total told =
    weaker g.D.Disk.moment g.D.Disk.since _ _ _ (IsMending file) (image_near file _ told) c.is_fresh.ensures.images

pub returns-in_err-is_fresh-clause-synced : goal.returns-in_err-is_fresh-clause-synced
returns-in_err-is_fresh-clause-synced g c file d total told now = on_err_of _ _ (the_file file d.synced (same_synced _ file d (c.is_fresh.ensures.same ∙ told) now))

pub returns-clause-synced : goal.returns-clause-synced
returns-clause-synced g c file d total told now =
    on_err c.put.result _ _ (λ is. the_file file d.synced is) (c.put.ensures.synced file d (c.is_fresh.ensures.same ∙ told) now)
