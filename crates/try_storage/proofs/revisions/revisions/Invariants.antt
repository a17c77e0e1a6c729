use Rattle.std.proofs.Common.{◌≡◌}
use Rattle.ep_revs.specs.Revisions.{last_doc}
use Rattle.try_storage.proofs.revisions.revisions.Given as goal

abbrev pub invariant-loop : goal.invariant-loop
invariant-loop l = l.doc ≡ last_doc l.revs.revs
