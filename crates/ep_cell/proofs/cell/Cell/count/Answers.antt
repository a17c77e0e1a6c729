use Rattle.std.proofs.Common.{arith}
use Rattle.ep_cell.proofs.Keeping.{count_allows}
use Rattle.ep_cell.proofs.cell.Cell.count.Goals as goal

pub load-found-requires : goal.load-found-requires
load-found-requires g c = (c.requires.of, omega (arith, c.args.self.now.words), count_allows g.M.Machine.stands g.M.Machine.legal c.args.self.now.board.shared.key.value _ _ _)
