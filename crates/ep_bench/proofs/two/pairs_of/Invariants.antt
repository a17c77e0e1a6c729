use Rattle.std.specs.List.{All}
use Rattle.ep_cs.specs.Edit.{apply}
use Rattle.ep_cs.specs.Fits.{Fits}
use Rattle.ep_bench.proofs.two.pairs_of.Given as goal

abbrev pub invariant-loop : goal.invariant-loop
invariant-loop l = All (λ pair. Fits pair.first l.doc × Fits pair.second (apply pair.first.edit l.doc)) l.pairs.items
