use Rattle.ep_undo.proofs.Stacks.{all-copied, copies-alike}
use Rattle.ep_undo.proofs.stack.Stack.copy.Goals as goal

pub returns : goal.returns
returns c = copies-alike c.args.self.now.records.items c.loop-record.records.items (all-copied c.loop-record.records.items _ c.args.self.now.records.items c.in-None.ensures.steps.0 c.loop-record.invariant)
