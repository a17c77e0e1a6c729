use Rattle.std.proofs.Common.{inl, inr, take, length}
use Rattle.std.proofs.lemmas.List.{take_all}
use Rattle.std.proofs.Common.{◌≡◌, ◌∙◌, ⊎_elim, ap, subst, arith, ◌+◌, ◌<◌, ◌≤◌, OnOk, List, ℕ, Some}
use Rattle.std.proofs.lemmas.Bool.{cases_lt}
use Rattle.ep_outside.specs.Disk.{settled}
use Rattle.ep_outside.proofs.Images.{only_told}
use Rattle.ep_outside.proofs.Moments.{joined, weaker}
use Rattle.ep_journal.specs.File.{records_of, stands_for, IsByGate, IsUnfinished}
use Rattle.ep_journal.proofs.Keeping.{first, first_old, first_unfinished, second, second_unfinished, staged_is, staged_old, grown_is, halfway, inside, inside_staged, bytes_less}
use Rattle.ep_journal.proofs.Append.{stands}
use Rattle.ep_journal.proofs.Syncing.{on_err, on_err_of}
use Rattle.ep_journal.proofs.steps.store.Goals as goal

pub returns-in_err-put-clause-crash : goal.returns-in_err-put-clause-crash
returns-in_err-put-clause-crash g c file rec st told =
    weaker g.D.Disk.moment g.D.Disk.since _ _ _ (IsByGate c.args.gate (records_of file) rec) (first file rec _ _ st) (c.put.ensures.crash file told (inside file rec _ _ st))

pub put-requires-2-clause-inside : goal.put-requires-2-clause-inside
put-requires-2-clause-inside g c = c.in_ok-put.ensures.longer c.args.gate (bytes_less _ c.args.gate (c.args.gate + 1) (omega arith) c.requires.inside)

pub returns-clause-crash : goal.returns-clause-crash
returns-clause-crash g c file rec st told =
    let P = IsByGate c.args.gate (records_of file) rec in
    let staged = c.in_ok-put.ensures.done file told ∙ ap (λ (l : List ℕ). Some (settled l)) (staged_is file rec _ _ st) in
    joined g.D.Disk.moment g.D.Disk.since _ _ _ P
    (weaker g.D.Disk.moment g.D.Disk.since _ _ _ P (first file rec _ _ st) (c.put.ensures.crash file told (inside file rec _ _ st)))
    (weaker g.D.Disk.moment g.D.Disk.since _ _ _ P (second file rec _ _ st) (c.put-2.ensures.crash _ staged (inside_staged file rec _ _ st)))

pub returns-in_err-put-clause-unfinished : goal.returns-in_err-put-clause-unfinished
returns-in_err-put-clause-unfinished g c file rec st told =
    weaker g.D.Disk.moment g.D.Disk.since _ _ _ (IsUnfinished file rec) (first_unfinished file rec _ _ st) (c.put.ensures.crash file told (inside file rec _ _ st))

pub returns-clause-unfinished : goal.returns-clause-unfinished
returns-clause-unfinished g c file rec st told =
    let P = IsUnfinished file rec in
    let staged = c.in_ok-put.ensures.done file told ∙ ap (λ (l : List ℕ). Some (settled l)) (staged_is file rec _ _ st) in
    joined g.D.Disk.moment g.D.Disk.since _ _ _ P
    (weaker g.D.Disk.moment g.D.Disk.since _ _ _ P (first_unfinished file rec _ _ st) (c.put.ensures.crash file told (inside file rec _ _ st)))
    (weaker g.D.Disk.moment g.D.Disk.since _ _ _ P (second_unfinished file rec _ _ st) (c.put-2.ensures.crash _ staged (inside_staged file rec _ _ st)))

pub returns-in_err-put-clause-synced : goal.returns-in_err-put-clause-synced
returns-in_err-put-clause-synced g c file rec d st told now =
    let is = c.in_err-put.ensures.synced file d told now in
    let left : (stands_for d.synced ≡ Some (records_of file)) × IsUnfinished file rec d.synced =
    (ap stands_for is ∙ stands file st.rest.begins, inl (ap (λ (l : List ℕ). take (length file) l) is ∙ take_all (length file) file (omega arith))) in
    on_err_of _ _ left

pub returns-clause-synced : goal.returns-clause-synced
returns-clause-synced g c file rec d st told now =
    let staged = c.in_ok-put.ensures.done file told ∙ ap (λ (l : List ℕ). Some (settled l)) (staged_is file rec _ _ st) in
    on_err c.put-2.result _ _ (λ is. (staged_old file rec _ _ st d.synced is, inr (0, is))) (c.put-2.ensures.synced _ d staged now)

pub returns-clause-done : goal.returns-clause-done
returns-clause-done g c file rec st told =
    let staged = c.in_ok-put.ensures.done file told ∙ ap (λ (l : List ℕ). Some (settled l)) (staged_is file rec _ _ st) in
    subst (λ (l : List ℕ). OnOk c.put-2.result (g.D.Disk.told c.put-2.new.disk ≡ Some (settled l))) (grown_is file rec _ _ st) (c.put-2.ensures.done _ staged)

pub returns-in_err-put-clause-stopped_early : goal.returns-in_err-put-clause-stopped_early
returns-in_err-put-clause-stopped_early g c file rec k st told few is image left =
    let run = c.put.ensures.crash file told (inside file rec _ _ st) in
    first_old file rec _ _ st image (run.each image (g.met.D.Disk.counts_now c.put.new.disk _ image run.later left))

pub returns-clause-stopped_early : goal.returns-clause-stopped_early
returns-clause-stopped_early g c file rec k st told few is image left =
    ⊎_elim
    (λ (two : k < 2). let failed = c.in_ok-put.ensures.stopped_early k two is in absurd (cc))
    (λ (more : 2 ≤ k).
    let e : k ≡ 0 + 2 = omega arith in
    let none = c.in_ok-put.ensures.counts 0 (is ∙ ap (λ (n : ℕ). Some n) e) in
    let staged = c.in_ok-put.ensures.done file told ∙ ap (λ (l : List ℕ). Some (settled l)) (staged_is file rec _ _ st) in
    staged_old file rec _ _ st image (only_told _ image _ (c.put-2.ensures.stopped_first none ∙ staged) left))
    (cases_lt k 2)

pub returns-clause-halfway : goal.returns-clause-halfway
returns-clause-halfway g c file rec st told alone is =
    let staged = c.in_ok-put.ensures.done file told ∙ ap (λ (l : List ℕ). Some (settled l)) (staged_is file rec _ _ st) in
    halfway file rec _ _ st _ (c.put-2.ensures.stopped_between _ (c.put.ensures.marks.alone ∙ alone) (c.in_ok-put.ensures.counts 1 is) staged)

pub returns-in_err-put-clause-halfway : goal.returns-in_err-put-clause-halfway
returns-in_err-put-clause-halfway g c file rec st told alone is = let ok = c.in_err-put.ensures.goes_through 1 alone is in absurd (cc)

pub returns-clause-goes_through : goal.returns-clause-goes_through
returns-clause-goes_through g c k alone is =
    let more : k + 4 ≡ k + 2 + 2 = omega arith in
    c.put-2.ensures.goes_through k (c.put.ensures.marks.alone ∙ alone) (c.in_ok-put.ensures.counts (k + 2) (is ∙ ap (λ (n : ℕ). Some n) more))

pub returns-in_err-put-clause-goes_through : goal.returns-in_err-put-clause-goes_through
returns-in_err-put-clause-goes_through g c k alone is =
    let more : k + 4 ≡ k + 2 + 2 = omega arith in
    let ok = c.in_err-put.ensures.goes_through (k + 2) alone (is ∙ ap (λ (n : ℕ). Some n) more) in absurd (cc)
