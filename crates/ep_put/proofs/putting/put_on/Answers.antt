use Rattle.std.proofs.Common.{◌∙◌, drop}
use Rattle.ep_outside.proofs.Moments.{goes_on, joined, started, weaker}
use Rattle.ep_put.specs.Putting.{IsAllOrNone, history_records}
use Rattle.ep_put.specs.Whole.{gated_all}
use Rattle.ep_put.proofs.Empty.{all_or_none, bytes_are, file_is, new_none}
use Rattle.ep_put.proofs.putting.put_on.Goals as goal

pub returns-in_err-bytes-clause-crash : goal.returns-in_err-bytes-clause-crash
returns-in_err-bytes-clause-crash g c told =
    started g.D.Disk.moment g.D.Disk.since c.args.disk.now (IsAllOrNone c.args.revs.now c.args.public) (λ i left. new_none c.args.revs.now c.args.public _ i told (g.met.D.Disk.only_now c.args.disk.now i left))

pub returns-in_err-reserve-clause-crash : goal.returns-in_err-reserve-clause-crash
returns-in_err-reserve-clause-crash g c told =
    let P = IsAllOrNone c.args.revs.now c.args.public in
    goes_on g.D.Disk.moment g.D.Disk.since c.args.disk.now c.args.disk.now c.reserve.new.self P _
    (started g.D.Disk.moment g.D.Disk.since c.args.disk.now P (λ i left. new_none c.args.revs.now c.args.public _ i told (g.met.D.Disk.only_now c.args.disk.now i left)))
    c.reserve.ensures.time (λ i image. new_none c.args.revs.now c.args.public _ i (c.reserve.ensures.same ∙ told) image)

pub returns-in-Ok-clause-crash : goal.returns-in-Ok-clause-crash
returns-in-Ok-clause-crash g c told =
    let P = IsAllOrNone c.args.revs.now c.args.public in
    let bytes = bytes_are c.args.revs.now c.args.public _ _ c.requires.revisions c.in_ok-bytes.ensures.bytes c.deref.ensures.value in
    joined g.D.Disk.moment g.D.Disk.since c.args.disk.now c.reserve.new.self c.store.new.disk P
    (goes_on g.D.Disk.moment g.D.Disk.since c.args.disk.now c.args.disk.now c.reserve.new.self P _
    (started g.D.Disk.moment g.D.Disk.since c.args.disk.now P (λ i left. new_none c.args.revs.now c.args.public _ i told (g.met.D.Disk.only_now c.args.disk.now i left)))
    c.reserve.ensures.time (λ i image. new_none c.args.revs.now c.args.public _ i (c.reserve.ensures.same ∙ told) image))
    (weaker g.D.Disk.moment g.D.Disk.since _ _ _ P (all_or_none c.args.revs.now c.args.public c.in_ok-bytes.ensures.stands c.requires.revisions)
    (c.store.ensures.crash (drop 1 (gated_all (history_records c.args.revs.now c.args.public))) bytes (c.reserve.ensures.same ∙ told)))

pub returns-in-Ok-clause-file : goal.returns-in-Ok-clause-file
returns-in-Ok-clause-file g c told =
    let bytes = bytes_are c.args.revs.now c.args.public _ _ c.requires.revisions c.in_ok-bytes.ensures.bytes c.deref.ensures.value in
    file_is c.args.revs.now c.args.public _ c.requires.revisions (c.in-Ok.ensures.done (drop 1 (gated_all (history_records c.args.revs.now c.args.public))) bytes (c.reserve.ensures.same ∙ told))

pub returns-clause-crash : goal.returns-clause-crash
returns-clause-crash g c told =
    let P = IsAllOrNone c.args.revs.now c.args.public in
    let bytes = bytes_are c.args.revs.now c.args.public _ _ c.requires.revisions c.in_ok-bytes.ensures.bytes c.deref.ensures.value in
    joined g.D.Disk.moment g.D.Disk.since c.args.disk.now c.reserve.new.self c.store.new.disk P
    (goes_on g.D.Disk.moment g.D.Disk.since c.args.disk.now c.args.disk.now c.reserve.new.self P _
    (started g.D.Disk.moment g.D.Disk.since c.args.disk.now P (λ i left. new_none c.args.revs.now c.args.public _ i told (g.met.D.Disk.only_now c.args.disk.now i left)))
    c.reserve.ensures.time (λ i image. new_none c.args.revs.now c.args.public _ i (c.reserve.ensures.same ∙ told) image))
    (weaker g.D.Disk.moment g.D.Disk.since _ _ _ P (all_or_none c.args.revs.now c.args.public c.in_ok-bytes.ensures.stands c.requires.revisions)
    (c.store.ensures.crash (drop 1 (gated_all (history_records c.args.revs.now c.args.public))) bytes (c.reserve.ensures.same ∙ told)))
