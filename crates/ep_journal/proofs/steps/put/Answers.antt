use Rattle.std.proofs.Common.{◌≡◌, ◌∙◌, ◌+◌, ap, arith, rules, length, ℕ, Some}
use Rattle.std.specs.Prelude.{IsOk}
use Rattle.ep_outside.specs.Images.{Torn}
use Rattle.ep_outside.proofs.Images.{after_write, untorn, only_told, sync_images, wrote_tells, sync_tells, wrote_seen}
use Rattle.ep_outside.proofs.Moments.{started, goes_on}
use Rattle.ep_outside.proofs.Stops.{one_less, two_less, stops_within_two, goes_through, OnOk-of}
use Rattle.ep_journal.proofs.Syncing.{write_keeps, put_keeps, on_err_of}
use Rattle.ep_journal.proofs.steps.put.Goals as goal

pub returns-in_err-write_at-clause-crash : goal.returns-in_err-write_at-clause-crash
returns-in_err-write_at-clause-crash g c s told inside =
    let disk = g.D.Disk in
    let old = c.args.disk.now in
    let P = Torn c.args.at (length c.args.bytes.now) s in
    goes_on disk.moment disk.since old old c.write_at.new.self P _
    (started disk.moment disk.since old P (λ i left. untorn _ _ s i (only_told s i _ told (g.met.D.Disk.only_now old i left))))
    c.write_at.ensures.call.time (after_write s _ _ _ _ _ inside told c.write_at.ensures.writes)

pub returns-clause-crash : goal.returns-clause-crash
returns-clause-crash g c s told inside =
    let disk = g.D.Disk in
    let old = c.args.disk.now in
    let P = Torn c.args.at (length c.args.bytes.now) s in
    let wrote = after_write s _ _ _ _ _ inside told c.write_at.ensures.writes in
    goes_on disk.moment disk.since old c.write_at.new.self c.sync.new.self P _
    (goes_on disk.moment disk.since old old c.write_at.new.self P _
    (started disk.moment disk.since old P (λ i left. untorn _ _ s i (only_told s i _ told (g.met.D.Disk.only_now old i left))))
    c.write_at.ensures.call.time wrote)
    c.sync.ensures.call.time (λ i image. wrote i (sync_images _ _ _ (g.met.D.Disk.reads_as_left c.write_at.new.self) c.sync.ensures.syncs i image))

pub returns-in_err-write_at-clause-tells : goal.returns-in_err-write_at-clause-tells
returns-in_err-write_at-clause-tells g c told = wrote_tells _ _ _ _ _ told c.write_at.ensures.writes

pub returns-clause-tells : goal.returns-clause-tells
returns-clause-tells g c told = sync_tells _ _ _ (wrote_tells _ _ _ _ _ told c.write_at.ensures.writes) c.sync.ensures.syncs

pub returns-clause-stopped_early : goal.returns-clause-stopped_early
returns-clause-stopped_early g c k few is =
    let ok : IsOk c.write_at.result = search rules in
    stops_within_two _ _ _ c.write_at.result c.sync.result k few is c.write_at.ensures.call.stops ok c.sync.ensures.call.stops

pub returns-clause-stopped_between : goal.returns-clause-stopped_between
returns-clause-stopped_between g c s alone is told =
    c.sync.ensures.stopped (one_less _ _ c.write_at.result 0 is c.write_at.ensures.call.stops) ∙ wrote_seen s _ _ _ _ _ told c.in_ok-write_at.ensures.writes

pub returns-clause-counts : goal.returns-clause-counts
returns-clause-counts g c k is = OnOk-of c.sync.result _ (two_less _ _ _ c.write_at.result c.sync.result k is c.write_at.ensures.call.stops c.sync.ensures.call.stops)

pub returns-clause-goes_through : goal.returns-clause-goes_through
returns-clause-goes_through g c k alone is =
    let more : k + 2 ≡ k + 1 + 1 = omega arith in
    goes_through _ _ _ _ _ c.sync.result k (c.write_at.ensures.call.alone.same ∙ alone) (one_less _ _ c.write_at.result (k + 1) (is ∙ ap (λ (n : ℕ). Some n) more) c.write_at.ensures.call.stops) c.sync.ensures.call.alone

pub returns-in_err-write_at-clause-synced : goal.returns-in_err-write_at-clause-synced
returns-in_err-write_at-clause-synced g c s d told now = on_err_of _ _ (write_keeps _ _ _ _ _ s d c.write_at.ensures.writes told now)

pub returns-clause-synced : goal.returns-clause-synced
returns-clause-synced g c s d told now = put_keeps _ _ _ _ _ _ _ s d c.write_at.ensures.writes c.sync.ensures.syncs told now
