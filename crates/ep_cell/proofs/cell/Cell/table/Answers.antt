use Rattle.ep_cell.proofs.Keeping.{opens}
use Rattle.ep_cell.proofs.cell.Cell.table.Goals as goal

pub new-requires : goal.new-requires
new-requires g c = opens g.M.Machine.stands g.M.Machine.legal c.args.first.now.value _ c.requires.0 c.requires.1 (g.met.M.Machine.stands_legal _ _ _ c.requires.1)
