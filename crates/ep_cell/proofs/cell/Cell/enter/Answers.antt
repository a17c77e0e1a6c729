use Rattle.std.proofs.Common.{arith}
use Rattle.ep_cell.proofs.Keeping.{enter_allows}
use Rattle.ep_cell.proofs.cell.Cell.enter.Goals as goal

pub load_new_seat-seat-requires : goal.load_new_seat-seat-requires
load_new_seat-seat-requires g c = (omega (arith, c.args.self.now.words), enter_allows g.M.Machine.stands g.M.Machine.legal c.args.self.now.board.shared.key.value _)
