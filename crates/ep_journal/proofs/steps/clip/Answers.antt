use Rattle.ep_journal.proofs.Syncing.{cut_keeps, clip_keeps, on_err_of}
use Rattle.ep_outside.specs.Images.{Front}
use Rattle.ep_outside.proofs.Images.{after_cut, whole_front, only_told, sync_images, cut_tells, sync_tells}
use Rattle.ep_outside.proofs.Moments.{started, goes_on}
use Rattle.ep_journal.proofs.steps.clip.Goals as goal

pub returns-clause-crash : goal.returns-clause-crash
returns-clause-crash g c s told inside =
    let disk = g.D.Disk in
    let old = c.args.disk.now in
    let P = Front c.args.to s in
    let clipped = after_cut s _ _ _ _ inside told c.cut.ensures.cuts in
    goes_on disk.moment disk.since old c.cut.new.self c.sync.new.self P _
    (goes_on disk.moment disk.since old old c.cut.new.self P _
    (started disk.moment disk.since old P (λ i left. whole_front _ s i inside (only_told s i _ told (g.met.D.Disk.only_now old i left))))
    c.cut.ensures.call.time clipped)
    c.sync.ensures.call.time (λ i image. clipped i (sync_images _ _ _ (g.met.D.Disk.reads_as_left c.cut.new.self) c.sync.ensures.syncs i image))

pub returns-in_err-cut-clause-tells : goal.returns-in_err-cut-clause-tells
returns-in_err-cut-clause-tells g c told = cut_tells _ _ _ _ told c.cut.ensures.cuts

pub returns-clause-tells : goal.returns-clause-tells
returns-clause-tells g c told = sync_tells _ _ _ (cut_tells _ _ _ _ told c.cut.ensures.cuts) c.sync.ensures.syncs

pub returns-in_err-cut-clause-crash : goal.returns-in_err-cut-clause-crash
returns-in_err-cut-clause-crash g c s told inside =
    let disk = g.D.Disk in
    let old = c.args.disk.now in
    let P = Front c.args.to s in
    goes_on disk.moment disk.since old old c.cut.new.self P _
    (started disk.moment disk.since old P (λ i left. whole_front _ s i inside (only_told s i _ told (g.met.D.Disk.only_now old i left))))
    c.cut.ensures.call.time (after_cut s _ _ _ _ inside told c.cut.ensures.cuts)

pub returns-in_err-cut-clause-synced : goal.returns-in_err-cut-clause-synced
returns-in_err-cut-clause-synced g c s d told now = on_err_of _ _ (cut_keeps _ _ _ _ s d c.cut.ensures.cuts told now)

pub returns-clause-synced : goal.returns-clause-synced
returns-clause-synced g c s d told now = clip_keeps _ _ _ _ _ _ s d c.cut.ensures.cuts c.sync.ensures.syncs told now
