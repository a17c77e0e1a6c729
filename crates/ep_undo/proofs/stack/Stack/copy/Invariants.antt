use Rattle.std.proofs.Common.{◌≡◌, ◌++◌, map}
use Rattle.std.specs.VecDeque.Iter.{deque_iter_rest}
use Rattle.ep_undo.specs.Stacks.{essence}
use Rattle.ep_undo.proofs.stack.Stack.copy.Given as goal

abbrev pub invariant-loop-record : goal.invariant-loop-record
invariant-loop-record l = map essence l.records.items ++ map essence (deque_iter_rest l.record-iterator) ≡ map essence l.self.records.items
