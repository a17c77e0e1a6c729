use Rattle.std.proofs.Common.{sym, subst}
use Rattle.ep_undo.specs.Stacks.{HasRoom}
use Rattle.ep_undo.proofs.Stacks.{alike-at, on-ok, top-can}
use Rattle.ep_undo.proofs.stack.Stack.reserve_heard.Goals as goal

pub returns-clause-alike : goal.returns-clause-alike
returns-clause-alike c =
    alike-at c.args.self.now.records.items c.push_back_reserved.new.self.items c.pop_back.new.self.items c.in-Some.top c.reserve-made.new.self
    c.in-Some.ensures.items c.push_back_reserved.ensures.items c.reserve-made.ensures.change c.reserve-made.ensures.heard

pub returns-clause-can : goal.returns-clause-can
returns-clause-can c =
    on-ok c.reserve-made.result
    (λ room. subst (HasRoom c.args.more) (sym c.push_back_reserved.ensures.items) (top-can c.args.more c.pop_back.new.self.items c.reserve-made.new.self room))
    c.reserve-made.ensures.room
