use Rattle.std.proofs.Common.{◌≡◌, subst}
use Rattle.std.specs.Prelude.{IfOk}
use Rattle.ep_cell.specs.Passes.{first_of}
use Rattle.ep_cell.proofs.cell.Cell.new.Goals as goal

pub returns-clause-first : goal.returns-clause-first
returns-clause-first g c = subst (λ m. IfOk c.over.result (λ cell. first_of cell ≡ m)) c.of-first.ensures c.over.ensures.first
