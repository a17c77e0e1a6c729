use Rattle.std.proofs.Common.{length}
use Rattle.ep_apply.proofs.Inserted.{IsInserting}
use Rattle.ep_apply.proofs.doc.Doc.as_insert.Given as goal

abbrev pub invariant-stretches : goal.invariant-stretches
invariant-stretches l = IsInserting l.self l.initial.builder l.builder l.rest

abbrev pub decreases-stretches : goal.decreases-stretches
decreases-stretches l = length l.rest
