use Rattle.std.proofs.Common.{◌≡◌, take}
use Rattle.ep_export.specs.Exported.{changes_of}
use Rattle.ep_export.proofs.exporting.changes.Given as goal

abbrev pub invariant-loop-rev : goal.invariant-loop-rev
invariant-loop-rev l = l.changes.items ≡ changes_of (take l.rev-index l.revs)
