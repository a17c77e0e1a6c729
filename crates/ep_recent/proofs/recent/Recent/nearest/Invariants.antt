use Rattle.std.proofs.Common.{ℕ, ◌≤◌, ◌<◌}
use Rattle.ep_cs.specs.Doc.{Doc}
use Rattle.ep_recent.specs.Recent.{IsKeptAt}
use Rattle.ep_recent.proofs.recent.Recent.nearest.Given as goal

abbrev pub invariant-back : goal.invariant-back
invariant-back l = (l.i ≤ l.end) × ((j : ℕ) (d : Doc) → l.i ≤ j → j < l.end → IsKeptAt l.self.kept j d → ⊥)

abbrev pub decreases-back : goal.decreases-back
decreases-back l = l.i
