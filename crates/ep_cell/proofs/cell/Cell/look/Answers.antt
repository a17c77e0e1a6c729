use Rattle.std.proofs.Common.{arith}
use Rattle.ep_cell.proofs.Keeping.{learn_allows}
use Rattle.ep_cell.proofs.cell.Cell.look.Goals as goal

pub load-requires : goal.load-requires
load-requires g c = (c.requires.of, omega (arith, c.args.self.now.words), learn_allows g.M.Machine.stands g.M.Machine.legal c.args.self.now.board.shared.key.value _ _ _)
