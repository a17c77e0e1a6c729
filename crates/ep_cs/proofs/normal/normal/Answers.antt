use Rattle.std.proofs.Common.{sym, ◌∙◌, subst}
use Rattle.ep_cs.specs.InOrder.{AreInOrder}
use Rattle.ep_cs.proofs.InOrder.{in_order_finished}
use Rattle.ep_cs.proofs.normal.normal.Goals as goal

pub returns-then-are_in_order-clause-finished : goal.returns-then-are_in_order-clause-finished
returns-then-are_in_order-clause-finished c =
    in_order_finished c.args.old_len c.args.ops.items c.args.bank.now c.requires.written c.requires.inside
    (sym c.count_lines.ensures.count ∙ c.if-count_lines-eq0.true)
    (subst AreInOrder c.deref.ensures.value (c.are_in_order.ensures c.if-are_in_order.true))
