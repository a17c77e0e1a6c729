use Rattle.std.proofs.Common.{◌≡◌}
use Rattle.ep_cs.specs.Made.{AreMade, after_all}
use Rattle.ep_bench.proofs.two.made_since.Given as goal

abbrev pub invariant-loop : goal.invariant-loop
invariant-loop l = AreMade l.doc l.changes.items × (l.now ≡ after_all l.doc l.changes.items)
