use Rattle.std.proofs.Common.{◌∙◌, arith}
use Rattle.ep_cell.proofs.Keeping.{take_allows}
use Rattle.ep_cell.proofs.cell.Cell.take.Goals as goal

pub compare_exchange-requires : goal.compare_exchange-requires
compare_exchange-requires g c = let i = c.loop.invariant in (i.4 ∙ c.requires.of, omega (arith, c.args.self.now.words), take_allows g.M.Machine.stands g.M.Machine.legal c.args.self.now.board.shared.key.value _ _ _)
