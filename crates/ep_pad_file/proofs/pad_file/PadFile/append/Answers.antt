use Rattle.std.proofs.Common.{◌≡◌, ◌∙◌, ◌+◌, ◌-◌, ◌∷◌, [], ap, arith, length, sym, subst, List, ℕ, Option, Some}
use Rattle.ep_outside.specs.Disk.{Contents, IsImage, ReadsAsLeft}
use Rattle.ep_outside.proofs.Moments.{weaker}
use Rattle.ep_pad_file.specs.Standing.{IsLeft, IsOldOrMore}
use Rattle.ep_pad_file.specs.Standing as standing
use Rattle.ep_pad_file.specs.Standing.{IsHalfway}
use Rattle.ep_pad_file.proofs.Standing.{one_or_other, by_gate, stands_same, stands_more}
use Rattle.ep_pad_file.proofs.Left.{unfinished}
use Rattle.ep_pad_file.proofs.Stopping.{stopped_kept, stopped_lost}
use Rattle.ep_pad_file.proofs.Telling.{holds_settled, holds_adds, held_tells, held_rest, left_images, synced_as_read, holds_synced, halfway, told_before}
use Rattle.ep_pad_file.proofs.pad_file.PadFile.append.Goals as goal

pub returns-in-Ok-clause-adds : goal.returns-in-Ok-clause-adds
returns-in-Ok-clause-adds g c rs h = holds_adds _ _ rs c.args.prepared c.framed.result.now h c.framed.ensures.bytes c.in-Ok.ensures.adds

pub returns-in-Ok-clause-any_moment : goal.returns-in-Ok-clause-any_moment
returns-in-Ok-clause-any_moment g c rs h =
    let t = held_tells _ rs h in
    weaker g.D.Disk.moment g.D.Disk.since _ _ _ (IsOldOrMore rs (c.args.prepared ∷ []))
    (λ image is. one_or_other rs c.args.prepared t.0.seen image c.framed.result.now t.2 c.framed.ensures.bytes is) (c.append.ensures.any_moment t.0 t.1)

pub returns-in-Ok-clause-by_gate : goal.returns-in-Ok-clause-by_gate
returns-in-Ok-clause-by_gate g c k rs told s =
    weaker g.D.Disk.moment g.D.Disk.since _ _ _ (standing.IsByGate _ rs c.args.prepared)
    (λ image is. by_gate _ rs c.args.prepared k.seen image c.framed.result.now s c.framed.ensures.bytes is) (c.append.ensures.by_gate k told)

pub returns-in-Ok-clause-stopped_early : goal.returns-in-Ok-clause-stopped_early
returns-in-Ok-clause-stopped_early g c rs calls h few is image left =
    let t = held_tells _ rs h in
    stands_same rs t.0.seen image t.2 (c.append.ensures.stopped_early t.0 calls t.1 few is image left)

pub returns-in-Err-clause-any_moment : goal.returns-in-Err-clause-any_moment
returns-in-Err-clause-any_moment g c rs h =
    let t = held_tells _ rs h in
    weaker g.D.Disk.moment g.D.Disk.since _ _ _ (IsOldOrMore rs (c.args.prepared ∷ []))
    (λ image is. one_or_other rs c.args.prepared t.0.seen image c.framed.result.now t.2 c.framed.ensures.bytes is) (c.append.ensures.any_moment t.0 t.1)

pub returns-in-Err-clause-by_gate : goal.returns-in-Err-clause-by_gate
returns-in-Err-clause-by_gate g c k rs told s =
    weaker g.D.Disk.moment g.D.Disk.since _ _ _ (standing.IsByGate _ rs c.args.prepared)
    (λ image is. by_gate _ rs c.args.prepared k.seen image c.framed.result.now s c.framed.ensures.bytes is) (c.append.ensures.by_gate k told)

pub returns-in-Err-clause-stopped_early : goal.returns-in-Err-clause-stopped_early
returns-in-Err-clause-stopped_early g c rs calls h few is image left =
    let t = held_tells _ rs h in
    stands_same rs t.0.seen image t.2 (c.append.ensures.stopped_early t.0 calls t.1 few is image left)

pub returns-in-Ok-clause-left : goal.returns-in-Ok-clause-left
returns-in-Ok-clause-left g c rs h =
    let t = held_tells _ rs h in
    let r = c.args.prepared in
    let rest = (held_rest _ t.0 _ _ t.1 c.requires.ready.held).1 in
    let run = weaker g.D.Disk.moment g.D.Disk.since _ _ _ (IsLeft rs (r ∷ []))
    (λ image is. unfinished rs r t.0.seen image c.framed.result.now rest t.2 c.framed.ensures.bytes c.framed.ensures.small is) (c.append.ensures.unfinished t.0 t.1) in
    let images = λ (image : List ℕ) (left : IsImage (g.D.Disk.told c.append.new.self.disk) image). run.each image (g.met.D.Disk.counts_now _ _ image run.later left) in
    (run, left_images _ rs (r ∷ []) images (g.met.D.Disk.reads_as_left _) (λ d now. synced_as_read _ d _ _ rs (r ∷ []) now c.in-Ok.ensures.ready.held (g.met.D.Disk.reads_as_left _) images))

pub returns-in-Err-clause-left : goal.returns-in-Err-clause-left
returns-in-Err-clause-left g c rs h =
    let t = held_tells _ rs h in
    let r = c.args.prepared in
    let rest = (held_rest _ t.0 _ _ t.1 c.requires.ready.held).1 in
    let run = weaker g.D.Disk.moment g.D.Disk.since _ _ _ (IsLeft rs (r ∷ []))
    (λ image is. unfinished rs r t.0.seen image c.framed.result.now rest t.2 c.framed.ensures.bytes c.framed.ensures.small is) (c.append.ensures.unfinished t.0 t.1) in
    let images = λ (image : List ℕ) (left : IsImage (g.D.Disk.told c.append.new.self.disk) image). run.each image (g.met.D.Disk.counts_now _ _ image run.later left) in
    (run, left_images _ rs (r ∷ []) images (g.met.D.Disk.reads_as_left _) (λ d now. unfinished rs r t.0.seen d.synced c.framed.result.now rest t.2 c.framed.ensures.bytes c.framed.ensures.small (c.in-Err.ensures.synced t.0 d t.1 now).1))

pub returns-in-Err-clause-synced : goal.returns-in-Err-clause-synced
returns-in-Err-clause-synced g c rs h =
    let t = held_tells _ rs h in
    let r = c.args.prepared in
    let rest = (held_rest _ t.0 _ _ t.1 c.requires.ready.held).1 in
    let run = weaker g.D.Disk.moment g.D.Disk.since _ _ _ (IsLeft rs (r ∷ []))
    (λ image is. unfinished rs r t.0.seen image c.framed.result.now rest t.2 c.framed.ensures.bytes c.framed.ensures.small is) (c.append.ensures.unfinished t.0 t.1) in
    let images = λ (image : List ℕ) (left : IsImage (g.D.Disk.told c.append.new.self.disk) image). run.each image (g.met.D.Disk.counts_now _ _ image run.later left) in
    let may = left_images _ rs (r ∷ []) images (g.met.D.Disk.reads_as_left _) (λ d now. unfinished rs r t.0.seen d.synced c.framed.result.now rest t.2 c.framed.ensures.bytes c.framed.ensures.small (c.in-Err.ensures.synced t.0 d t.1 now).1) in
    holds_synced _ rs (r ∷ []) t.0.seen may t.2 (λ d now. (c.in-Err.ensures.synced t.0 d t.1 now).0)

pub returns-in-Ok-clause-acknowledged : goal.returns-in-Ok-clause-acknowledged
returns-in-Ok-clause-acknowledged g c rs h image left =
    let t = held_tells _ rs h in
    stands_more rs c.args.prepared t.0.seen image c.framed.result.now t.2 c.framed.ensures.bytes (c.in-Ok.ensures.acknowledged t.0 t.1 image left)

pub returns-in-Err-clause-stopped_late : goal.returns-in-Err-clause-stopped_late
returns-in-Err-clause-stopped_late g c rs h alone is =
    let t = held_tells _ rs h in
    halfway _ rs c.args.prepared t.0.seen c.framed.result.now t.2 c.framed.ensures.bytes
    (c.append.ensures.stopped_late t.0 t.1 (omega (arith, c.requires.room.limit, ap (λ (l : List ℕ). length l) c.framed.ensures.bytes.same)) alone is)

pub returns-in-Ok-clause-settled : goal.returns-in-Ok-clause-settled
returns-in-Ok-clause-settled g c rs h =
    holds_settled _ _ _ _ c.in-Ok.ensures.ready.held (holds_adds _ _ rs c.args.prepared c.framed.result.now h c.framed.ensures.bytes c.in-Ok.ensures.adds)

pub returns-in-Ok-clause-stopped : goal.returns-in-Ok-clause-stopped
returns-in-Ok-clause-stopped g c rs calls h alone left asked d image told is =
    let t = held_tells _ rs h in
    let r = c.args.prepared in
    let enc = c.framed.ensures.bytes in
    stopped_kept d rs r calls
    (λ image there. stands_more rs r t.0.seen image c.framed.result.now t.2 enc (c.in-Ok.ensures.acknowledged t.0 t.1 image (subst (λ (o : Option Contents). IsImage o image) (sym told) there)))
    (subst ReadsAsLeft told (g.met.D.Disk.reads_as_left _))
    (ap (λ (k : Contents). k.synced) (held_rest _ d _ _ told c.in-Ok.ensures.ready.held).0)
    (λ few image there. stands_same rs t.0.seen image t.2 (c.append.ensures.stopped_early t.0 calls t.1 few left image (subst (λ (o : Option Contents). IsImage o image) (sym told) there)))
    (λ three. subst (λ (o : Option Contents). IsHalfway o rs r) told (halfway _ rs r t.0.seen c.framed.result.now t.2 enc
    (c.append.ensures.stopped_late t.0 t.1 (omega (arith, c.requires.room.limit, ap (λ (l : List ℕ). length l) enc.same)) alone (left ∙ ap (λ (n : ℕ). Some n) three))))
    asked image is

pub returns-in-Err-clause-stopped : goal.returns-in-Err-clause-stopped
returns-in-Err-clause-stopped g c rs calls h alone left asked d image told is =
    let t = held_tells _ rs h in
    let r = c.args.prepared in
    let enc = c.framed.ensures.bytes in
    let rest = (held_rest _ t.0 _ _ t.1 c.requires.ready.held).1 in
    let fits = c.requires.room.limit in
    let long = ap (λ (l : List ℕ). length l) enc.same in
    let by = c.append.ensures.by_gate t.0 t.1 in
    let un = c.append.ensures.unfinished t.0 t.1 in
    let synced = c.in-Err.ensures.synced t.0 d t.1 told in
    stopped_lost rs r t.0.seen c.framed.result.now t.2 enc rest c.framed.ensures.small d calls
    (λ image there.
    let now = subst (λ (o : Option Contents). IsImage o image) (sym told) there in
    (by.each image (g.met.D.Disk.counts_now _ _ image by.later now), un.each image (g.met.D.Disk.counts_now _ _ image un.later now)))
    (subst ReadsAsLeft told (g.met.D.Disk.reads_as_left _))
    (stands_same rs t.0.seen d.synced t.2 synced.0) synced.1
    (λ few image there. stands_same rs t.0.seen image t.2 (c.append.ensures.stopped_early t.0 calls t.1 few left image (subst (λ (o : Option Contents). IsImage o image) (sym told) there)))
    (λ three. subst (λ (o : Option Contents). IsHalfway o rs r) told (halfway _ rs r t.0.seen c.framed.result.now t.2 enc
    (c.append.ensures.stopped_late t.0 t.1 (omega (arith, fits, long)) alone (left ∙ ap (λ (n : ℕ). Some n) three))))
    (λ many.
    let more : calls ≡ calls - 4 + 4 = omega (arith, many) in
    let through = c.in-Err.ensures.goes_through (calls - 4) (omega (arith, fits, long)) alone (left ∙ ap (λ (n : ℕ). Some n) more) in
    absurd (cc))
    asked image is

pub returns-in-Ok-clause-told : goal.returns-in-Ok-clause-told
returns-in-Ok-clause-told g c k told = told_before _ _ _ k c.in-Ok.ensures.adds told
