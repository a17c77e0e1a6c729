use Rattle.std.proofs.Common.{◌≡◌, ◌∙◌, ap, sym, subst, ⊎_elim, inl, inr, Err}
use Rattle.ep_journal.specs.declared.journal_bad.JournalBad.{JournalBad}
use Rattle.ep_history.specs.declared.pad_bad.PadBad.TheVariants.{Foreign}
use Rattle.ep_pad_file.specs.Standing.{IsLeft}
use Rattle.ep_pad_file.proofs.Causes.{foreign_is}
use Rattle.ep_pad_file.proofs.Left.{left_mends, left_stands, left_native}
use Rattle.ep_pad_file.proofs.Telling.{left_tells, image_left, asked_left, first_left, may_left, left_images, synced_as_read, stands_again}
use Rattle.ep_pad_file.proofs.pad_file.PadFile.restart.Goals as goal

pub returns-in-Ok-clause-left : goal.returns-in-Ok-clause-left
returns-in-Ok-clause-left g c rs pending may =
    let t = left_tells _ rs pending may in
    let r = c.in-Ok.ensures.crash t.0 t.1 in
    let asked = asked_left t.0 _ r.0 rs pending t.2 r.1 in
    let run = first_left g.D.Disk.moment g.D.Disk.since _ _ _ _ rs pending
    (λ image left. ⊎_elim (image_left _ t.0 rs pending t.1 t.2 image) (λ same. subst (IsLeft rs pending) (sym same) asked) left)
    (λ image m. left_mends rs pending r.0 image asked m) r.2 in (
      run,
      left_images _ rs pending (λ image left. run.each image (g.met.D.Disk.counts_now _ _ image run.later left)) (g.met.D.Disk.reads_as_left _)
          (λ d now. synced_as_read _ d _ _ rs pending now c.in-Ok.ensures.ready.held (g.met.D.Disk.reads_as_left _) (λ image left. run.each image (g.met.D.Disk.counts_now _ _ image run.later left))),
    )

pub returns-in-Err-clause-left : goal.returns-in-Err-clause-left
returns-in-Err-clause-left g c rs pending may =
    let t = left_tells _ rs pending may in
    let r = c.in-Err.ensures.crash t.0 t.1 in
    let asked = asked_left t.0 _ r.0 rs pending t.2 r.1 in
    let run = may_left g.D.Disk.moment g.D.Disk.since _ _ _ _ rs pending
    (λ image left. ⊎_elim (image_left _ t.0 rs pending t.1 t.2 image) (λ same. subst (IsLeft rs pending) (sym same) asked) left)
    (λ image m. left_mends rs pending r.0 image asked m) r.2 in
    let o = c.in-Err.ensures.opens t.0 t.1 in (
      run,
      left_images _ rs pending (λ image left. run.each image (g.met.D.Disk.counts_now _ _ image run.later left)) (g.met.D.Disk.reads_as_left _)
          (λ d now. left_mends rs pending o.0 d.synced (asked_left t.0 _ o.0 rs pending t.2 o.1) (o.2.synced d now)),
    )

pub returns-in-Ok-clause-settled : goal.returns-in-Ok-clause-settled
returns-in-Ok-clause-settled g c rs pending may =
    let t = left_tells _ rs pending may in
    let o = c.in-Ok.ensures.opens t.0 t.1 in
    ⊎_elim (λ s. inl (stands_again rs _ o.0 s o.2.records)) (λ s. inr (stands_again _ _ o.0 s o.2.records))
    (left_stands rs pending o.0 (asked_left t.0 _ o.0 rs pending t.2 o.1))

pub returns-in-Err-clause-opens : goal.returns-in-Err-clause-opens
returns-in-Err-clause-opens g c k told =
    let o = c.in-Err.ensures.opens k told in
    (o.0, o.1, record { records = λ rs s. tt; file = tt; foreign = λ is. let same : c.pad_bad.result ≡ Foreign = cc in o.2.foreign (ap (λ (w : JournalBad). Err w) (foreign_is _ (sym c.pad_bad.ensures.cause ∙ same))) })

pub returns-in-Err-clause-own_left : goal.returns-in-Err-clause-own_left
returns-in-Err-clause-own_left g c rs pending may is =
    let t = left_tells _ rs pending may in
    let o = c.in-Err.ensures.opens t.0 t.1 in
    left_native rs pending o.0 (asked_left t.0 _ o.0 rs pending t.2 o.1) (o.2.foreign (ap (λ (w : JournalBad). Err w) (foreign_is _ (sym c.pad_bad.ensures.cause ∙ is))))
