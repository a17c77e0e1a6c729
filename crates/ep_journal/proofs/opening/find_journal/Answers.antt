use Rattle.ep_journal.proofs.Syncing.{same_synced, on_err_of}
use Rattle.ep_journal.proofs.Sparing.{the_file}
use Rattle.std.proofs.Common.{◌≡◌, ◌∙◌, ap, arith, sym, rules, true, List, ℕ}
use Rattle.ep_outside.specs.Disk.{settled}
use Rattle.ep_outside.proofs.Moments.{started, goes_on, weaker, joined}
use Rattle.ep_journal.specs.File.{IsMending, gates_of, end_of}
use Rattle.ep_journal.proofs.Counting.{none_read}
use Rattle.ep_journal.proofs.Repairing.{image_near, long_journal, short_size, mended_records, mended_fresh}
use Rattle.ep_journal.proofs.opening.find_journal.Goals as goal

pub returns-then-is_err-clause-crash : goal.returns-then-is_err-clause-crash
returns-then-is_err-clause-crash g c file told =
    let P = IsMending file in
    let told_r = c.reserve.ensures.same ∙ told in
    let reserved = goes_on g.D.Disk.moment g.D.Disk.since _ _ _ P _ (started g.D.Disk.moment g.D.Disk.since _ P (λ i left. image_near file _ told i (g.met.D.Disk.only_now _ i left))) c.reserve.ensures.time (image_near file _ told_r) in
    reserved

pub returns-in_err-total-clause-crash : goal.returns-in_err-total-clause-crash
returns-in_err-total-clause-crash g c file told =
    let P = IsMending file in
    let told_r = c.reserve.ensures.same ∙ told in
    let reserved = goes_on g.D.Disk.moment g.D.Disk.since _ _ _ P _ (started g.D.Disk.moment g.D.Disk.since _ P (λ i left. image_near file _ told i (g.met.D.Disk.only_now _ i left))) c.reserve.ensures.time (image_near file _ told_r) in
    let told_l = c.length.ensures.same ∙ told_r in
    let sized = goes_on g.D.Disk.moment g.D.Disk.since _ _ _ P _ reserved c.length.ensures.call.time (image_near file _ told_l) in
    sized

pub returns-in_err-make_fresh-clause-crash : goal.returns-in_err-make_fresh-clause-crash
returns-in_err-make_fresh-clause-crash g c file told =
    let P = IsMending file in
    let told_r = c.reserve.ensures.same ∙ told in
    let reserved = goes_on g.D.Disk.moment g.D.Disk.since _ _ _ P _ (started g.D.Disk.moment g.D.Disk.since _ P (λ i left. image_near file _ told i (g.met.D.Disk.only_now _ i left))) c.reserve.ensures.time (image_near file _ told_r) in
    let told_l = c.length.ensures.same ∙ told_r in
    let sized = goes_on g.D.Disk.moment g.D.Disk.since _ _ _ P _ reserved c.length.ensures.call.time (image_near file _ told_l) in
    joined g.D.Disk.moment g.D.Disk.since _ _ _ P sized (c.make_fresh.ensures.crash file (short_size file _ _ told_r c.in_ok-total.ensures.value) told_l)

pub returns-then-total-le9-clause-crash : goal.returns-then-total-le9-clause-crash
returns-then-total-le9-clause-crash g c file told =
    let P = IsMending file in
    let told_r = c.reserve.ensures.same ∙ told in
    let reserved = goes_on g.D.Disk.moment g.D.Disk.since _ _ _ P _ (started g.D.Disk.moment g.D.Disk.since _ P (λ i left. image_near file _ told i (g.met.D.Disk.only_now _ i left))) c.reserve.ensures.time (image_near file _ told_r) in
    let told_l = c.length.ensures.same ∙ told_r in
    let sized = goes_on g.D.Disk.moment g.D.Disk.since _ _ _ P _ reserved c.length.ensures.call.time (image_near file _ told_l) in
    joined g.D.Disk.moment g.D.Disk.since _ _ _ P sized (c.make_fresh.ensures.crash file (short_size file _ _ told_r c.in_ok-total.ensures.value) told_l)

pub returns-then-total-le9-clause-gates : goal.returns-then-total-le9-clause-gates
returns-then-total-le9-clause-gates g c file told =
    let told_r = c.reserve.ensures.same ∙ told in
    let size = short_size file _ _ told_r c.in_ok-total.ensures.value in
    mended_fresh file c.new.result.items (omega (arith, size, c.if-total-le9.true)) c.new.ensures.items

pub returns-in_err-begins_well-clause-crash : goal.returns-in_err-begins_well-clause-crash
returns-in_err-begins_well-clause-crash g c file told =
    let P = IsMending file in
    let told_r = c.reserve.ensures.same ∙ told in
    let reserved = goes_on g.D.Disk.moment g.D.Disk.since _ _ _ P _ (started g.D.Disk.moment g.D.Disk.since _ P (λ i left. image_near file _ told i (g.met.D.Disk.only_now _ i left))) c.reserve.ensures.time (image_near file _ told_r) in
    let told_l = c.length.ensures.same ∙ told_r in
    let sized = goes_on g.D.Disk.moment g.D.Disk.since _ _ _ P _ reserved c.length.ensures.call.time (image_near file _ told_l) in
    let told_b = c.begins_well.ensures.same ∙ told_l in
    let begun = joined g.D.Disk.moment g.D.Disk.since _ _ _ P sized (weaker g.D.Disk.moment g.D.Disk.since _ _ _ P (image_near file _ told_l) c.begins_well.ensures.images) in
    begun

pub returns-then-not-branch-clause-crash : goal.returns-then-not-branch-clause-crash
returns-then-not-branch-clause-crash g c file told =
    let P = IsMending file in
    let told_r = c.reserve.ensures.same ∙ told in
    let reserved = goes_on g.D.Disk.moment g.D.Disk.since _ _ _ P _ (started g.D.Disk.moment g.D.Disk.since _ P (λ i left. image_near file _ told i (g.met.D.Disk.only_now _ i left))) c.reserve.ensures.time (image_near file _ told_r) in
    let told_l = c.length.ensures.same ∙ told_r in
    let sized = goes_on g.D.Disk.moment g.D.Disk.since _ _ _ P _ reserved c.length.ensures.call.time (image_near file _ told_l) in
    let told_b = c.begins_well.ensures.same ∙ told_l in
    let begun = joined g.D.Disk.moment g.D.Disk.since _ _ _ P sized (weaker g.D.Disk.moment g.D.Disk.since _ _ _ P (image_near file _ told_l) c.begins_well.ensures.images) in
    begun

pub returns-in_err-mend-clause-crash : goal.returns-in_err-mend-clause-crash
returns-in_err-mend-clause-crash g c file told =
    let P = IsMending file in
    let told_r = c.reserve.ensures.same ∙ told in
    let reserved = goes_on g.D.Disk.moment g.D.Disk.since _ _ _ P _ (started g.D.Disk.moment g.D.Disk.since _ P (λ i left. image_near file _ told i (g.met.D.Disk.only_now _ i left))) c.reserve.ensures.time (image_near file _ told_r) in
    let told_l = c.length.ensures.same ∙ told_r in
    let sized = goes_on g.D.Disk.moment g.D.Disk.since _ _ _ P _ reserved c.length.ensures.call.time (image_near file _ told_l) in
    let told_b = c.begins_well.ensures.same ∙ told_l in
    let begun = joined g.D.Disk.moment g.D.Disk.since _ _ _ P sized (weaker g.D.Disk.moment g.D.Disk.since _ _ _ P (image_near file _ told_l) c.begins_well.ensures.images) in
    let well : c.in_ok-begins_well.field-0 ≡ true = search rules in
    let j = long_journal file c.in_ok-total.total _ told_r c.in_ok-total.ensures.value c.if-total-le9.false (sym (c.in_ok-begins_well.ensures.begins (settled file) told_l) ∙ well) in
    joined g.D.Disk.moment g.D.Disk.since _ _ _ P begun (c.mend.ensures.crash file j told_b)

pub returns-clause-crash : goal.returns-clause-crash
returns-clause-crash g c file told =
    let P = IsMending file in
    let told_r = c.reserve.ensures.same ∙ told in
    let reserved = goes_on g.D.Disk.moment g.D.Disk.since _ _ _ P _ (started g.D.Disk.moment g.D.Disk.since _ P (λ i left. image_near file _ told i (g.met.D.Disk.only_now _ i left))) c.reserve.ensures.time (image_near file _ told_r) in
    let told_l = c.length.ensures.same ∙ told_r in
    let sized = goes_on g.D.Disk.moment g.D.Disk.since _ _ _ P _ reserved c.length.ensures.call.time (image_near file _ told_l) in
    let told_b = c.begins_well.ensures.same ∙ told_l in
    let begun = joined g.D.Disk.moment g.D.Disk.since _ _ _ P sized (weaker g.D.Disk.moment g.D.Disk.since _ _ _ P (image_near file _ told_l) c.begins_well.ensures.images) in
    let well : c.in_ok-begins_well.field-0 ≡ true = search rules in
    let j = long_journal file c.in_ok-total.total _ told_r c.in_ok-total.ensures.value c.if-total-le9.false (sym (c.in_ok-begins_well.ensures.begins (settled file) told_l) ∙ well) in
    joined g.D.Disk.moment g.D.Disk.since _ _ _ P begun (c.mend.ensures.crash file j told_b)

pub returns-clause-gates : goal.returns-clause-gates
returns-clause-gates g c file told =
    let told_r = c.reserve.ensures.same ∙ told in
    let told_l = c.length.ensures.same ∙ told_r in
    let told_b = c.begins_well.ensures.same ∙ told_l in
    let well : c.in_ok-begins_well.field-0 ≡ true = search rules in
    let j = long_journal file c.in_ok-total.total _ told_r c.in_ok-total.ensures.value c.if-total-le9.false (sym (c.in_ok-begins_well.ensures.begins (settled file) told_l) ∙ well) in
    let found = c.in_ok-mend.ensures.gates file j told_b in
    let e = sym (mended_records file c.in_ok-total.total j) in
    (found.0 ∙ ap (λ (rs : List (List ℕ)). gates_of 8 rs) e, found.1 ∙ ap (λ (rs : List (List ℕ)). end_of 8 rs) e)

pub returns-in_err-mend-clause-reads_of_file : goal.returns-in_err-mend-clause-reads_of_file
returns-in_err-mend-clause-reads_of_file g c file told =
    let told_r = c.reserve.ensures.same ∙ told in
    let told_l = c.length.ensures.same ∙ told_r in
    let told_b = c.begins_well.ensures.same ∙ told_l in
    let well : c.in_ok-begins_well.field-0 ≡ true = search rules in
    let j = long_journal file c.in_ok-total.total _ told_r c.in_ok-total.ensures.value c.if-total-le9.false (sym (c.in_ok-begins_well.ensures.begins (settled file) told_l) ∙ well) in
    omega (arith, none_read _ _ c.reserve.ensures.bytes_read, none_read _ _ c.length.ensures.bytes_read, c.begins_well.ensures.reads, c.mend.ensures.reads_of_file file j told_b)

pub returns-clause-reads_of_file : goal.returns-clause-reads_of_file
returns-clause-reads_of_file g c file told =
    let told_r = c.reserve.ensures.same ∙ told in
    let told_l = c.length.ensures.same ∙ told_r in
    let told_b = c.begins_well.ensures.same ∙ told_l in
    let well : c.in_ok-begins_well.field-0 ≡ true = search rules in
    let j = long_journal file c.in_ok-total.total _ told_r c.in_ok-total.ensures.value c.if-total-le9.false (sym (c.in_ok-begins_well.ensures.begins (settled file) told_l) ∙ well) in
    omega (arith, none_read _ _ c.reserve.ensures.bytes_read, none_read _ _ c.length.ensures.bytes_read, c.begins_well.ensures.reads, c.mend.ensures.reads_of_file file j told_b)

pub returns-then-is_err-clause-synced : goal.returns-then-is_err-clause-synced
returns-then-is_err-clause-synced g c file d told now = the_file file d.synced (same_synced _ file d (c.reserve.ensures.same ∙ told) now)

pub returns-in_err-total-clause-synced : goal.returns-in_err-total-clause-synced
returns-in_err-total-clause-synced g c file d told now = on_err_of _ _ (the_file file d.synced (same_synced _ file d (c.length.ensures.same ∙ (c.reserve.ensures.same ∙ told)) now))

pub returns-in_err-begins_well-clause-synced : goal.returns-in_err-begins_well-clause-synced
returns-in_err-begins_well-clause-synced g c file d told now = on_err_of _ _ (the_file file d.synced (same_synced _ file d (c.begins_well.ensures.same ∙ (c.length.ensures.same ∙ (c.reserve.ensures.same ∙ told))) now))
