use Rattle.std.proofs.Common.{ℕ, ◌≤◌, arith}
use Rattle.ep_cs.specs.Doc.{Doc}
use Rattle.ep_recent.specs.Recent.{IsKeptAt}
use Rattle.ep_recent.proofs.Told.{from_before}
use Rattle.ep_recent.proofs.recent.Recent.nearest.Goals as goal

pub back-preserved : goal.back-preserved
back-preserved c =
    let has_none : ℕ → Type 0 = λ j. (d : Doc) → IsKeptAt c.args.self.now.kept j d → ⊥ in
    let none = from_before has_none c.back.i c.args.end c.back-test.true (λ j low high d is. c.back.invariant.1 j d low high is) c.in_default.ensures.none in
    (omega arith, λ j d low high is. none j low high d is)

pub returns-clause-none : goal.returns-clause-none
returns-clause-none c i d lt is =
    let low : c.back.i ≤ i = omega arith in
    c.back.invariant.1 i d low lt is
