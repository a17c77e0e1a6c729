use Rattle.std.proofs.Common.{◌≡◌, ◌∙◌, ◌+◌, ap, arith, ℕ, List, OnOk, Some, subst}
use Rattle.ep_outside.specs.Disk.{settled}
use Rattle.ep_outside.proofs.Moments.{joined, weaker}
use Rattle.ep_put.specs.Steps.{IsWholeOrNone, new_file}
use Rattle.ep_put.proofs.NewFile.{opened_is, staged_is, torn_first, torn_gate}
use Rattle.ep_put.proofs.storing.store.Goals as goal

pub returns-in_err-write-clause-crash : goal.returns-in_err-write-clause-crash
returns-in_err-write-clause-crash g c body is told =
    weaker g.D.Disk.moment g.D.Disk.since _ _ _ (IsWholeOrNone body) (torn_first _ body) (c.write.ensures.crash new_file told (omega arith))

pub returns-in_err-write-clause-goes_through : goal.returns-in_err-write-clause-goes_through
returns-in_err-write-clause-goes_through g c k alone is =
    let more : k + 4 ≡ k + 2 + 2 = omega arith in
    let ok = c.in_err-write.ensures.goes_through (k + 2) alone (is ∙ ap (λ (n : ℕ). Some n) more) in absurd (cc)

pub returns-clause-goes_through : goal.returns-clause-goes_through
returns-clause-goes_through g c k alone is =
    let more : k + 4 ≡ k + 2 + 2 = omega arith in
    c.write-2.ensures.goes_through k (c.write.ensures.marks.alone ∙ alone) (c.in_ok-write.ensures.counts (k + 2) (is ∙ ap (λ (n : ℕ). Some n) more))

pub returns-clause-crash : goal.returns-clause-crash
returns-clause-crash g c body is told =
    let P = IsWholeOrNone body in
    let staged = c.in_ok-write.ensures.done new_file told ∙ ap (λ (l : List ℕ). Some (settled l)) (staged_is _ body is) in
    joined g.D.Disk.moment g.D.Disk.since _ _ _ P
    (weaker g.D.Disk.moment g.D.Disk.since _ _ _ P (torn_first _ body) (c.write.ensures.crash new_file told (omega arith)))
    (weaker g.D.Disk.moment g.D.Disk.since _ _ _ P (torn_gate _ body is) (c.write-2.ensures.crash _ staged (omega arith)))

pub returns-clause-done : goal.returns-clause-done
returns-clause-done g c body is told =
    let staged = c.in_ok-write.ensures.done new_file told ∙ ap (λ (l : List ℕ). Some (settled l)) (staged_is _ body is) in
    subst (λ (l : List ℕ). OnOk c.write-2.result (g.D.Disk.told c.write-2.new.disk ≡ Some (settled l))) (opened_is _ body is) (c.write-2.ensures.done _ staged)
