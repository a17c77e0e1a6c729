use Rattle.std.specs.List.{All}
use Rattle.ep_cs.specs.Fits.{Fits}
use Rattle.ep_bench.proofs.work.fitting_edits.Given as goal

abbrev pub invariant-loop : goal.invariant-loop
invariant-loop l = All (λ change. Fits change l.doc) l.changes.items
