use Rattle.std.proofs.Common.{◌≡◌, not, length, rules, refl, ap, ◌∙◌, arith}
use Rattle.std.specs.VecDeque.{deque_len}
use Rattle.ep_undo.proofs.Tops.{counted-records, top-records}
use Rattle.ep_undo.proofs.stack.Stack.has_top.Goals as goal

pub returns : goal.returns
returns c =
    let n : deque_len c.args.self.now.records ≡ length c.args.self.now.records.items = grind arith in
    ap not c.is_empty.ensures ∙ counted-records c.args.self.now.records.items _ n ∙ top-records c.args.self.now.records.items
