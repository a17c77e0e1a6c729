use Rattle.std.proofs.Common.{◌∙◌, arith}
use mathlib.Core.Option as m
use Rattle.atomic_table.specs.Table.{step}
use Rattle.ep_cell.proofs.Calling.{of_one}
use Rattle.ep_cell.proofs.Keeping.{join_joins, learn_allows}
use Rattle.ep_cell.proofs.cell.Cell.join.Goals as goal

pub join_seat-requires : goal.join_seat-requires
join_seat-requires g c =
    (c.requires.of.0, c.requires.of.1, c.requires.idle.1, omega (arith, c.args.self.now.words), join_joins g.M.Machine.stands g.M.Machine.legal c.args.self.now.board.shared.key.value _ _ _ _ c.requires.idle.0)

pub load-requires : goal.load-requires
load-requires g c = (c.join_seat.ensures.0 ∙ c.requires.of.0, omega (arith, c.args.self.now.words), learn_allows g.M.Machine.stands g.M.Machine.legal c.args.self.now.board.shared.key.value _ _ _)

pub returns-clause-one : goal.returns-clause-one
returns-clause-one g c = of_one c.args.seat.now.me.0 c.args.other.me.0 c.join_seat.new.seat.me c.load.new.seat.me c.args.seat.now.me.1 (step 0 0 0 0 m.none) c.load.result c.join_seat.ensures.2 c.load.ensures.2
