use Rattle.std.proofs.Common.{◌≡◌}
use Rattle.ep_cell.proofs.cell.Cell.number.Given as goal

abbrev pub invariant-loop : goal.invariant-loop
invariant-loop g l =
    (goal.iterator-loop g).can_next l.iterator' × (goal.iterator-loop g).is_finite l.iterator'
    × (l.seat.me.1 ≡ l.initial.seat.me.1) × (l.seat.me.0.seen ≡ l.initial.seat.me.0.seen) × (l.seat.me.0.has_machine ≡ l.initial.seat.me.0.has_machine) × (l.seat.id ≡ l.initial.seat.id) × (l.seat.table_id ≡ l.initial.seat.table_id) × (l.seat.me.0.floor ≡ l.initial.seat.me.0.floor) × (l.seat.me.0.begun ≡ l.initial.seat.me.0.begun)
