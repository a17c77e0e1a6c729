use Rattle.std.proofs.Common.{subst, sym}
use Rattle.ep_past.specs.Revisions.{AreRevisions}
use Rattle.ep_export_rows.proofs.shown.exported.Goals as goal

pub export-requires-clause-some : goal.export-requires-clause-some
export-requires-clause-some c = (c.births_can_be_exported.ensures _ (subst AreRevisions (sym c.deref.ensures.value) c.requires)).0

pub export-requires-clause-made : goal.export-requires-clause-made
export-requires-clause-made c = (c.births_can_be_exported.ensures _ (subst AreRevisions (sym c.deref.ensures.value) c.requires)).1
