use Rattle.std.proofs.Common.{◌≡◌, length}
use Rattle.ep_make.specs.Same.{doc_eq}
use Rattle.ep_make.proofs.same.is_same.Given as goal

abbrev pub invariant-stretches : goal.invariant-stretches
invariant-stretches l = doc_eq l.doc l.other ≡ doc_eq l.rest l.others

abbrev pub decreases-stretches : goal.decreases-stretches
decreases-stretches l = length l.rest
