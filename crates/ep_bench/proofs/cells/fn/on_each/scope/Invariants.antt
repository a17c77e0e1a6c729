use Rattle.ep_bench.proofs.cells.fn.on_each.scope.Given as goal

abbrev pub invariant-loop-cell : goal.invariant-loop-cell
invariant-loop-cell g l = Unit {0}
