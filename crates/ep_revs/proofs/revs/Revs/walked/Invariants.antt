use Rattle.std.proofs.Common.{◌≡◌}
use Rattle.ep_revs.specs.Revisions.{doc_of}
use Rattle.ep_revs.proofs.revs.Revs.walked.Given as goal

abbrev pub invariant-loop-i : goal.invariant-loop-i
invariant-loop-i l = l.doc ≡ doc_of l.self-inside.revs.items l.i
