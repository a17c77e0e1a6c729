use Rattle.ep_journal.proofs.Sparing.{the_file}
use Rattle.ep_journal.proofs.Syncing.{on_err}
use Rattle.std.proofs.Common.{◌∙◌, inl, inr, ⊎_elim, ℕ, List, subst}
use Rattle.ep_outside.specs.Disk.{IsImage, settled}
use Rattle.ep_outside.proofs.Images.{only_told}
use Rattle.ep_outside.proofs.Moments.{started, goes_on}
use Rattle.ep_journal.specs.File.{IsMending}
use Rattle.ep_journal.specs.Held.{IsForeign}
use Rattle.ep_journal.specs.Journal.{IsImageOr}
use Rattle.ep_journal.proofs.Restarting.{opens_after}
use Rattle.ep_journal.proofs.Keeping.{restarted, foreign_cause, after_restart}
use Rattle.ep_journal.proofs.journal.Journal.restart.Goals as goal

pub returns-clause-opens : goal.returns-clause-opens
returns-clause-opens g c k told =
    let r = restarted _ _ _ k told c.restart.ensures.restarts in (
      r.0,
      r.1,
      record {
        file = c.reopen.ensures.file (settled r.0) r.2;
        records = c.reopen.ensures.records (settled r.0) r.2;
        foreign = λ is. subst IsForeign r.2 (foreign_cause c.reopen.result _ _ _ _ c.reopen.ensures.refused is);
        synced = λ d now. on_err c.reopen.result _ _ (⊎_elim (λ same. the_file r.0 d.synced same) (λ mending. mending)) (c.reopen.ensures.synced (settled r.0) d r.2 now);
      },
    )

pub returns-clause-refused : goal.returns-clause-refused
returns-clause-refused g c =
    after_restart c.reopen.result _ _ _ _ _ _ c.restart.ensures.failures
    (⊎_elim (λ steady. inl (c.restart.ensures.steady steady)) (λ alone. inr (c.restart.ensures.alone ∙ alone, c.restart.ensures.stop)))
    c.reopen.ensures.refused

pub returns-clause-crash : goal.returns-clause-crash
returns-clause-crash g c k told =
    let disk = g.D.Disk in
    let old = c.args.self.now.disk in
    let r = restarted _ _ _ k told c.restart.ensures.restarts in
    let P = IsImageOr (disk.told old) r.0 in
    let or_image : (i : List ℕ) → IsImage (disk.told c.restart.new.self) i → P i = λ i left. inr (only_told r.0 i _ r.2 left) in
    let start = goes_on disk.moment disk.since old old c.restart.new.self P _ (started disk.moment disk.since old P (λ i left. inl (g.met.D.Disk.only_now old i left))) c.restart.ensures.time or_image in (
      r.0,
      r.1,
      opens_after disk.moment disk.since old c.restart.new.self c.reopen.new.self.disk (IsImage (disk.told c.restart.new.self)) P (IsMending r.0) start or_image c.reopen.result (c.reopen.ensures.crash (settled r.0) r.2),
    )
