use Rattle.ep_journal.proofs.Syncing.{same_synced}
use Rattle.ep_journal.proofs.Sparing.{the_file}
use Rattle.std.proofs.Common.{◌∙◌, arith, inr, subst, sym, Option}
use Rattle.ep_outside.specs.Disk.{Contents, IsImage}
use Rattle.ep_outside.specs.Moments.{LeavesOnly}
use Rattle.ep_outside.proofs.Moments.{started, goes_on, joined}
use Rattle.ep_journal.proofs.Counting.{none_read}
use Rattle.ep_journal.proofs.Repairing.{opens_held}
use Rattle.ep_journal.proofs.opening.open_disk.Goals as goal

pub returns-in-Ok-Some-clause-crash : goal.returns-in-Ok-Some-clause-crash
returns-in-Ok-Some-clause-crash g c k told =
    let disk = g.D.Disk in
    let old = c.args.disk.now in
    let P = IsImage (disk.told old) in
    let same = c.reserve.ensures.same in
    let reserved = goes_on disk.moment disk.since old old c.reserve.new.self P _ (started disk.moment disk.since old P (λ i left. g.met.D.Disk.only_now old i left)) c.reserve.ensures.time (λ i left. subst (λ (o : Option Contents). IsImage o i) same left) in
    let synced = joined disk.moment disk.since old c.reserve.new.self c.settle.new.disk P reserved (subst (λ (o : Option Contents). LeavesOnly disk.moment disk.since c.reserve.new.self c.settle.new.disk (IsImage o)) same c.settle.ensures.crash) in
    (c.settle.new.disk, synced, c.find_journal.ensures.crash k.seen (c.in-Ok.ensures.done k (same ∙ told)))

pub returns-in-Ok-None-clause-crash : goal.returns-in-Ok-None-clause-crash
returns-in-Ok-None-clause-crash g c k told =
    let disk = g.D.Disk in
    let old = c.args.disk.now in
    let P = IsImage (disk.told old) in
    let same = c.reserve.ensures.same in
    let reserved = goes_on disk.moment disk.since old old c.reserve.new.self P _ (started disk.moment disk.since old P (λ i left. g.met.D.Disk.only_now old i left)) c.reserve.ensures.time (λ i left. subst (λ (o : Option Contents). IsImage o i) same left) in
    let synced = joined disk.moment disk.since old c.reserve.new.self c.settle.new.disk P reserved (subst (λ (o : Option Contents). LeavesOnly disk.moment disk.since c.reserve.new.self c.settle.new.disk (IsImage o)) same c.settle.ensures.crash) in
    inr (c.settle.new.disk, synced, c.find_journal.ensures.crash k.seen (c.in-Ok.ensures.done k (same ∙ told)))

pub returns-in-Err-Failed-clause-crash : goal.returns-in-Err-Failed-clause-crash
returns-in-Err-Failed-clause-crash g c k told =
    let disk = g.D.Disk in
    let old = c.args.disk.now in
    let P = IsImage (disk.told old) in
    let same = c.reserve.ensures.same in
    let reserved = goes_on disk.moment disk.since old old c.reserve.new.self P _ (started disk.moment disk.since old P (λ i left. g.met.D.Disk.only_now old i left)) c.reserve.ensures.time (λ i left. subst (λ (o : Option Contents). IsImage o i) same left) in
    let synced = joined disk.moment disk.since old c.reserve.new.self c.settle.new.disk P reserved (subst (λ (o : Option Contents). LeavesOnly disk.moment disk.since c.reserve.new.self c.settle.new.disk (IsImage o)) same c.settle.ensures.crash) in
    inr (c.settle.new.disk, synced, c.find_journal.ensures.crash k.seen (c.in-Ok.ensures.done k (same ∙ told)))

pub returns-in-Err-NoMemory-clause-crash : goal.returns-in-Err-NoMemory-clause-crash
returns-in-Err-NoMemory-clause-crash g c k told =
    let disk = g.D.Disk in
    let old = c.args.disk.now in
    let P = IsImage (disk.told old) in
    let same = c.reserve.ensures.same in
    let reserved = goes_on disk.moment disk.since old old c.reserve.new.self P _ (started disk.moment disk.since old P (λ i left. g.met.D.Disk.only_now old i left)) c.reserve.ensures.time (λ i left. subst (λ (o : Option Contents). IsImage o i) same left) in
    let synced = joined disk.moment disk.since old c.reserve.new.self c.settle.new.disk P reserved (subst (λ (o : Option Contents). LeavesOnly disk.moment disk.since c.reserve.new.self c.settle.new.disk (IsImage o)) same c.settle.ensures.crash) in
    inr (c.settle.new.disk, synced, c.find_journal.ensures.crash k.seen (c.in-Ok.ensures.done k (same ∙ told)))

pub returns-in-Ok-Some-clause-held : goal.returns-in-Ok-Some-clause-held
returns-in-Ok-Some-clause-held g c =
    let same = c.reserve.ensures.same in
    opens_held (g.D.Disk.told c.args.disk.now) _ _ _ (λ none. c.find_journal.ensures.tells (c.settle.ensures.tells (same ∙ none)))
    (λ k told. let synced = c.in-Ok.ensures.done k (same ∙ told) in
    let some = c.in-Ok-Some.field-0-is in
    let done = rw some at (c.in-Ok-Some.ensures.done k.seen synced) in
    let gates = rw some at (c.in-Ok-Some.ensures.gates k.seen synced) in
    let native = rw some at (c.in-Ok-Some.ensures.foreign k.seen synced) in
    (done, gates.0, gates.1, sym native))

pub returns-in-Ok-Some-clause-native : goal.returns-in-Ok-Some-clause-native
returns-in-Ok-Some-clause-native g c k told =
    let some = c.in-Ok-Some.field-0-is in
    sym (rw some at (c.in-Ok-Some.ensures.foreign k.seen (c.in-Ok.ensures.done k (c.reserve.ensures.same ∙ told))))

pub returns-in-Ok-Some-clause-reads_of_file : goal.returns-in-Ok-Some-clause-reads_of_file
returns-in-Ok-Some-clause-reads_of_file g c k told = omega (arith, none_read _ _ c.reserve.ensures.bytes_read, c.settle.ensures.reads, c.find_journal.ensures.reads_of_file k.seen (c.in-Ok.ensures.done k (c.reserve.ensures.same ∙ told)))

pub returns-in-Ok-None-clause-reads_of_file : goal.returns-in-Ok-None-clause-reads_of_file
returns-in-Ok-None-clause-reads_of_file g c k told = omega (arith, none_read _ _ c.reserve.ensures.bytes_read, c.settle.ensures.reads, c.find_journal.ensures.reads_of_file k.seen (c.in-Ok.ensures.done k (c.reserve.ensures.same ∙ told)))

pub returns-in-Err-Failed-clause-reads_of_file : goal.returns-in-Err-Failed-clause-reads_of_file
returns-in-Err-Failed-clause-reads_of_file g c k told = omega (arith, none_read _ _ c.reserve.ensures.bytes_read, c.settle.ensures.reads, c.find_journal.ensures.reads_of_file k.seen (c.in-Ok.ensures.done k (c.reserve.ensures.same ∙ told)))

pub returns-in-Err-NoMemory-clause-reads_of_file : goal.returns-in-Err-NoMemory-clause-reads_of_file
returns-in-Err-NoMemory-clause-reads_of_file g c k told = omega (arith, none_read _ _ c.reserve.ensures.bytes_read, c.settle.ensures.reads, c.find_journal.ensures.reads_of_file k.seen (c.in-Ok.ensures.done k (c.reserve.ensures.same ∙ told)))

pub returns-in-Ok-None-clause-synced : goal.returns-in-Ok-None-clause-synced
returns-in-Ok-None-clause-synced g c k d told now =
    let same = rw c.in-Ok-None.field-0-is at c.in-Ok-None.ensures.untouched in
    inr (the_file k.seen d.synced (same_synced _ k.seen d (same ∙ c.in-Ok.ensures.done k (c.reserve.ensures.same ∙ told)) now))

pub returns-in-Err-Failed-clause-synced : goal.returns-in-Err-Failed-clause-synced
returns-in-Err-Failed-clause-synced g c k d told now = inr (c.in-Err-Failed.ensures.synced k.seen d (c.in-Ok.ensures.done k (c.reserve.ensures.same ∙ told)) now)

pub returns-in-Err-NoMemory-clause-synced : goal.returns-in-Err-NoMemory-clause-synced
returns-in-Err-NoMemory-clause-synced g c k d told now = inr (c.in-Err-NoMemory.ensures.synced k.seen d (c.in-Ok.ensures.done k (c.reserve.ensures.same ∙ told)) now)
