use Rattle.ep_cell.specs.Passes.{IsOf}
use Rattle.try_threads.proofs.cells.add.Given as goal

abbrev pub invariant-loop : goal.invariant-loop
invariant-loop g l = IsOf l.cell l.pass
