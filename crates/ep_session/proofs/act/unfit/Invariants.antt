use Rattle.std.proofs.Common.{◌≡◌, drop}
use Rattle.ep_cs.specs.Made.{AreMade}
use Rattle.ep_session.specs.Session.{unfit}
use Rattle.ep_session.proofs.act.unfit.Given as goal

abbrev pub invariant-loop-change : goal.invariant-loop-change
invariant-loop-change l = record {
  exact : unfit l.doc l.changes ≡ unfit l.now (drop l.change-index l.changes);
  made : AreMade l.now (drop l.change-index l.changes) → AreMade l.doc l.changes;
}
