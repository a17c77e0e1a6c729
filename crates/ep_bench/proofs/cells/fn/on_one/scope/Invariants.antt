use Rattle.ep_bench.proofs.cells.fn.on_one.scope.Given as goal

abbrev pub invariant-loop : goal.invariant-loop
invariant-loop g l = Unit {0}
