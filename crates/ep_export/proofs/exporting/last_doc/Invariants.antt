use Rattle.std.proofs.Common.{◌≡◌, drop}
use Rattle.ep_cs.specs.Made.{AreMade}
use Rattle.ep_history.specs.History.{made, newline}
use Rattle.ep_export.specs.Exported.{changes_of}
use Rattle.ep_export.proofs.exporting.last_doc.Given as goal

abbrev pub invariant-loop-rev : goal.invariant-loop-rev
invariant-loop-rev l = (made l.doc (drop l.rev-index l.revs) ≡ made newline l.revs) × AreMade l.doc (changes_of (drop l.rev-index l.revs))
