use Rattle.std.proofs.Common.{◌≡◌, ◌++◌, [], Some, false, All}
use Rattle.ep_cell.specs.History.{StartsWith}
use Rattle.ep_cell.proofs.cell.Cell.gather.Given as goal

abbrev pub invariant-loop-pass : goal.invariant-loop-pass
invariant-loop-pass g l =
    (l.seat.table_id ≡ l.self.board.shared.table_id) × (l.seat.me.1 ≡ []) × (l.seat.me.0.has_machine ≡ false)
    × (l.fn.passes.items ≡ l.yielded ++ l.pass-iterator.rest.items)
    × All (λ p. StartsWith l.seat.me.0.seen p.seat.me.0.seen) l.yielded
    × (l.seat.me.0.begun ≡ Some l.self.first.value)
