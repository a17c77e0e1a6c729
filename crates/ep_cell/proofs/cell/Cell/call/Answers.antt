use Rattle.std.proofs.Common.{◌∙◌, arith}
use Rattle.ep_cell.proofs.Calling.{call_appends, call_puts, call_makes, call_legal}
use Rattle.ep_cell.proofs.cell.Cell.call.Goals as goal

pub compare_exchange-requires : goal.compare_exchange-requires
compare_exchange-requires g c =
    (c.make-reply.ensures.of.0 ∙ (c.count-count.ensures.same.0 ∙ (c.take.ensures.of.0 ∙ c.requires.of)), omega (arith, c.args.self.now.words), call_appends g.M.Machine.stands g.M.Machine.legal c.args.self.now.board.shared.key.value c.args.pass.now.first.value.value c.args.self.now.board.shared.table_id.slots c.make-reply.new.seat.id c.args.pass.now.seat.me c.take.new.seat.me c.count-count.new.seat.me c.make-reply.new.seat.me c.count-count.result c.args.entry c.make-reply.result c.args.pass.now.numbered c.args.pass.now.begun c.take.ensures.taken c.count-count.ensures.same.2 c.make-reply.ensures.of.2 c.count-count.ensures.count.0 c.make-reply.ensures.made)

pub store-requires : goal.store-requires
store-requires g c =
    (c.compare_exchange.ensures.0 ∙ (c.make-reply.ensures.of.0 ∙ (c.count-count.ensures.same.0 ∙ (c.take.ensures.of.0 ∙ c.requires.of))), omega (arith, c.args.self.now.words), call_puts g.M.Machine.stands g.M.Machine.legal c.args.self.now.board.shared.key.value c.args.pass.now.first.value.value c.args.self.now.board.shared.table_id.slots c.compare_exchange.new.seat.id c.args.pass.now.seat.me c.take.new.seat.me c.count-count.new.seat.me c.make-reply.new.seat.me c.count-count.result c.args.entry c.make-reply.result c.args.pass.now.numbered c.args.pass.now.begun c.take.ensures.taken c.count-count.ensures.same.2 c.make-reply.ensures.of.2 c.count-count.ensures.count.0 c.make-reply.ensures.made c.compare_exchange.result c.compare_exchange.new.seat.me c.compare_exchange.ensures.2 c.args.self.now.slots)

pub returns-clause-makes : goal.returns-clause-makes
returns-clause-makes g c =
    call_makes g.M.Machine.stands g.M.Machine.legal c.args.self.now.board.shared.key.value c.args.pass.now.first.value.value c.args.self.now.board.shared.table_id.slots c.compare_exchange.new.seat.id c.args.pass.now.seat.me c.take.new.seat.me c.count-count.new.seat.me c.make-reply.new.seat.me c.count-count.result c.args.entry c.make-reply.result c.args.pass.now.numbered c.args.pass.now.begun c.take.ensures.taken c.count-count.ensures.same.2 c.make-reply.ensures.of.2 c.count-count.ensures.count.0 c.make-reply.ensures.made c.compare_exchange.result c.compare_exchange.new.seat.me c.compare_exchange.ensures.2 c.args.self.now.slots c.store.new.seat.me c.store.ensures.2

pub returns-clause-legal : goal.returns-clause-legal
returns-clause-legal g c =
    call_legal g.M.Machine.stands g.M.Machine.legal c.args.self.now.board.shared.key.value c.args.pass.now.first.value.value c.args.self.now.board.shared.table_id.slots c.compare_exchange.new.seat.id c.args.pass.now.seat.me c.take.new.seat.me c.count-count.new.seat.me c.make-reply.new.seat.me c.count-count.result c.args.entry c.make-reply.result c.args.pass.now.numbered c.args.pass.now.begun c.take.ensures.taken c.count-count.ensures.same.2 c.make-reply.ensures.of.2 c.count-count.ensures.count.0 c.make-reply.ensures.made c.compare_exchange.result c.compare_exchange.new.seat.me c.compare_exchange.ensures.2 c.args.self.now.slots c.store.new.seat.me c.store.ensures.2
