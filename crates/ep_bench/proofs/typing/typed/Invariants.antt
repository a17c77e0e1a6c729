use Rattle.std.proofs.Common.{◌≡◌}
use Rattle.ep_cs.specs.Made.{AreMade, after_all}
use Rattle.ep_bench.proofs.typing.typed.Given as goal

abbrev pub invariant-loop-i : goal.invariant-loop-i
invariant-loop-i l = AreMade l.doc l.changes.items × (l.now ≡ after_all l.doc l.changes.items)
