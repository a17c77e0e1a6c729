use Rattle.std.proofs.Common.{subst, sym, refl}
use Rattle.ep_outside.proofs.Images.{whole_front}
use Rattle.ep_journal.proofs.Syncing.{on_err_of}
use Rattle.std.proofs.Common.{◌∙◌, ap, List, ℕ, Some}
use Rattle.ep_outside.specs.Disk.{settled}
use Rattle.ep_outside.proofs.Moments.{started, weaker}
use Rattle.ep_journal.specs.File.{IsMending}
use Rattle.ep_journal.specs.Repair.{zeroed}
use Rattle.ep_journal.proofs.Repairing.{near_cut, near_zeroed, inside_zeroed, cut_mends}
use Rattle.ep_journal.proofs.opening.cut_rest.Goals as goal

pub returns-in_err-clip-clause-crash : goal.returns-in_err-clip-clause-crash
returns-in_err-clip-clause-crash g c file cl total told =
    weaker g.D.Disk.moment g.D.Disk.since _ _ _ (IsMending file) (near_cut file _ cl) (c.clip.ensures.crash (zeroed file) told (inside_zeroed file _ cl))

pub returns-in_ok-clip-clause-crash : goal.returns-in_ok-clip-clause-crash
returns-in_ok-clip-clause-crash g c file cl total told =
    weaker g.D.Disk.moment g.D.Disk.since _ _ _ (IsMending file) (near_cut file _ cl) (c.clip.ensures.crash (zeroed file) told (inside_zeroed file _ cl))

pub returns-in_ok-clip-clause-done : goal.returns-in_ok-clip-clause-done
returns-in_ok-clip-clause-done g c file cl total told = c.in_ok-clip.ensures.done (zeroed file) told ∙ ap (λ (l : List ℕ). Some (settled l)) (cut_mends file _ cl)

pub returns-else-gate-total-clause-crash : goal.returns-else-gate-total-clause-crash
returns-else-gate-total-clause-crash g c file cl total told =
    started g.D.Disk.moment g.D.Disk.since _ _ (λ i left. near_zeroed file _ cl _ told i (g.met.D.Disk.only_now _ i left))

pub returns-in_err-clip-clause-synced : goal.returns-in_err-clip-clause-synced
returns-in_err-clip-clause-synced g c file d cl told now =
    on_err_of _ _ (subst (IsMending file) (sym (c.in_err-clip.ensures.synced (zeroed file) d told now)) (near_cut file _ cl (zeroed file) (whole_front _ (zeroed file) (zeroed file) (inside_zeroed file _ cl) refl)))
