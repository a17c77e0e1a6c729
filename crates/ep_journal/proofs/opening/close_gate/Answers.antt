use Rattle.ep_journal.proofs.Syncing.{same_synced, on_err_of}
use Rattle.ep_journal.proofs.Sparing.{the_file}
use Rattle.std.proofs.Common.{◌∙◌, arith}
use Rattle.ep_outside.proofs.Moments.{weaker, joined}
use Rattle.ep_journal.specs.File.{IsMending}
use Rattle.ep_journal.proofs.Repairing.{near_zero, image_near, gate_inside, wrong_byte}
use Rattle.ep_journal.proofs.opening.close_gate.Goals as goal

pub returns-in_err-byte_on-clause-crash : goal.returns-in_err-byte_on-clause-crash
returns-in_err-byte_on-clause-crash g c file cl told =
    weaker g.D.Disk.moment g.D.Disk.since _ _ _ (IsMending file) (image_near file _ told) c.byte_on.ensures.images

pub returns-in_err-put-clause-crash : goal.returns-in_err-put-clause-crash
returns-in_err-put-clause-crash g c file cl told =
    joined g.D.Disk.moment g.D.Disk.since _ _ _ (IsMending file)
    (weaker g.D.Disk.moment g.D.Disk.since _ _ _ (IsMending file) (image_near file _ told) c.byte_on.ensures.images)
    (weaker g.D.Disk.moment g.D.Disk.since _ _ _ (IsMending file) (near_zero file _ cl (wrong_byte file _ _ _ told c.in_ok-byte_on.ensures.byte (gate_inside file _ cl) c.if-branch-ne0.true)) (c.put.ensures.crash file (c.byte_on.ensures.same ∙ told) (omega (arith, gate_inside file _ cl))))

pub returns-in_ok-put-clause-crash : goal.returns-in_ok-put-clause-crash
returns-in_ok-put-clause-crash g c file cl told =
    joined g.D.Disk.moment g.D.Disk.since _ _ _ (IsMending file)
    (weaker g.D.Disk.moment g.D.Disk.since _ _ _ (IsMending file) (image_near file _ told) c.byte_on.ensures.images)
    (weaker g.D.Disk.moment g.D.Disk.since _ _ _ (IsMending file) (near_zero file _ cl (wrong_byte file _ _ _ told c.in_ok-byte_on.ensures.byte (gate_inside file _ cl) c.if-branch-ne0.true)) (c.put.ensures.crash file (c.byte_on.ensures.same ∙ told) (omega (arith, gate_inside file _ cl))))

pub returns-else-branch-ne0-clause-crash : goal.returns-else-branch-ne0-clause-crash
returns-else-branch-ne0-clause-crash g c file cl told =
    weaker g.D.Disk.moment g.D.Disk.since _ _ _ (IsMending file) (image_near file _ told) c.byte_on.ensures.images

pub returns-in_err-byte_on-clause-synced : goal.returns-in_err-byte_on-clause-synced
returns-in_err-byte_on-clause-synced g c file d cl told now = on_err_of _ _ (the_file file d.synced (same_synced _ file d (c.byte_on.ensures.same ∙ told) now))

pub returns-in_err-put-clause-synced : goal.returns-in_err-put-clause-synced
returns-in_err-put-clause-synced g c file d cl told now = on_err_of _ _ (the_file file d.synced (c.in_err-put.ensures.synced file d (c.byte_on.ensures.same ∙ told) now))
