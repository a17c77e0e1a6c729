use Rattle.std.proofs.Common.{◌≡◌, ◌∙◌, ◌+◌, ap, arith, length, ℕ, Some}
use Rattle.ep_outside.specs.Images.{Torn}
use Rattle.ep_outside.proofs.Images.{after_write, untorn, only_told, sync_images}
use Rattle.ep_outside.proofs.Moments.{started, goes_on}
use Rattle.ep_outside.proofs.Stops.{one_less, two_less, goes_through, OnOk-of}
use Rattle.ep_put.proofs.storing.write.Goals as goal

pub returns-in_err-write_at-clause-crash : goal.returns-in_err-write_at-clause-crash
returns-in_err-write_at-clause-crash g c s told inside =
    let disk = g.D.Disk in
    let old = c.args.disk.now in
    let P = Torn c.args.at (length c.args.bytes.now) s in
    goes_on disk.moment disk.since old old c.write_at.new.self P _
    (started disk.moment disk.since old P (λ i left. untorn _ _ s i (only_told s i _ told (g.met.D.Disk.only_now old i left))))
    c.write_at.ensures.call.time (after_write s _ _ _ _ _ inside told c.write_at.ensures.writes)

pub returns-clause-crash : goal.returns-clause-crash
returns-clause-crash g c s told inside =
    let disk = g.D.Disk in
    let old = c.args.disk.now in
    let P = Torn c.args.at (length c.args.bytes.now) s in
    let wrote = after_write s _ _ _ _ _ inside told c.write_at.ensures.writes in
    goes_on disk.moment disk.since old c.write_at.new.self c.sync.new.self P _
    (goes_on disk.moment disk.since old old c.write_at.new.self P _
    (started disk.moment disk.since old P (λ i left. untorn _ _ s i (only_told s i _ told (g.met.D.Disk.only_now old i left))))
    c.write_at.ensures.call.time wrote)
    c.sync.ensures.call.time (λ i image. wrote i (sync_images _ _ _ (g.met.D.Disk.reads_as_left c.write_at.new.self) c.sync.ensures.syncs i image))

pub returns-clause-counts : goal.returns-clause-counts
returns-clause-counts g c k is = OnOk-of c.sync.result _ (two_less _ _ _ c.write_at.result c.sync.result k is c.write_at.ensures.call.stops c.sync.ensures.call.stops)

pub returns-clause-goes_through : goal.returns-clause-goes_through
returns-clause-goes_through g c k alone is =
    let more : k + 2 ≡ k + 1 + 1 = omega arith in
    goes_through _ _ _ _ _ c.sync.result k (c.write_at.ensures.call.alone.same ∙ alone) (one_less _ _ c.write_at.result (k + 1) (is ∙ ap (λ (n : ℕ). Some n) more) c.write_at.ensures.call.stops) c.sync.ensures.call.alone
