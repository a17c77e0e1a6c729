use Rattle.std.proofs.Common.{◌∙◌, arith}
use Rattle.ep_cell.proofs.Keeping.{number_allows}
use Rattle.ep_cell.proofs.cell.Cell.number.Goals as goal

pub compare_exchange-requires : goal.compare_exchange-requires
compare_exchange-requires g c = let i = c.loop.invariant in (i.6 ∙ c.requires.of, omega (arith, c.args.self.now.words), number_allows g.M.Machine.stands g.M.Machine.legal c.args.self.now.board.shared.key.value _ _ _ _ (i.4 ∙ c.requires.idle.0))
