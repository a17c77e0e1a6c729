use Rattle.std.proofs.Common.{◌∙◌, sym}
use Rattle.ep_pad_file.proofs.Causes.{foreign_cause}
use Rattle.ep_pad_file.proofs.Left.{left_mends}
use Rattle.ep_pad_file.proofs.Telling.{left_tells, image_left, first_left, may_left, left_images, synced_as_read, synced_left, settles, own_left}
use Rattle.ep_pad_file.proofs.pad_file.PadFile.open.Goals as goal

pub returns-in-Ok-clause-left : goal.returns-in-Ok-clause-left
returns-in-Ok-clause-left g c rs pending may =
    let t = left_tells _ rs pending may in
    let run = first_left g.D.Disk.moment g.D.Disk.since _ _ _ _ rs pending (image_left _ t.0 rs pending t.1 t.2) (λ image m. left_mends rs pending t.0.seen image t.2.0 m) (c.in-Ok.ensures.crash t.0 t.1) in (
      run,
      left_images _ rs pending (λ image left. run.each image (g.met.D.Disk.counts_now _ _ image run.later left)) (g.met.D.Disk.reads_as_left _)
          (λ d now. synced_as_read _ d _ _ rs pending now c.in-Ok.ensures.ready.held (g.met.D.Disk.reads_as_left _) (λ image left. run.each image (g.met.D.Disk.counts_now _ _ image run.later left))),
    )

pub returns-in-Err-clause-left : goal.returns-in-Err-clause-left
returns-in-Err-clause-left g c rs pending may =
    let t = left_tells _ rs pending may in
    let run = may_left g.D.Disk.moment g.D.Disk.since _ _ _ _ rs pending (image_left _ t.0 rs pending t.1 t.2) (λ image m. left_mends rs pending t.0.seen image t.2.0 m) (c.in-Err.ensures.crash t.0 t.1) in
    (run, left_images _ rs pending (λ image left. run.each image (g.met.D.Disk.counts_now _ _ image run.later left)) (g.met.D.Disk.reads_as_left _) (λ d now. synced_left t.0 d rs pending t.2 (c.in-Err.ensures.synced t.0 d t.1 now)))

pub returns-in-Ok-clause-settled : goal.returns-in-Ok-clause-settled
returns-in-Ok-clause-settled g c rs pending may = settles _ _ rs pending may (λ k told. c.in-Ok.ensures.records k told)

pub returns-in-Err-clause-own_left : goal.returns-in-Err-clause-own_left
returns-in-Err-clause-own_left g c rs pending may is = own_left _ rs pending may (foreign_cause _ _ _ _ _ c.in-Err.ensures.refused (sym c.pad_bad.ensures.cause ∙ is))
