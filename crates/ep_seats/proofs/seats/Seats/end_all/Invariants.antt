use Rattle.std.proofs.Common.{◌≡◌, map, vec_len}
use Rattle.ep_history.specs.declared.seat.Why.TheVariants.{Deleted}
use Rattle.ep_seats.specs.Places.{ended_place, taken_from, IsSingle}
use Rattle.ep_seats.proofs.seats.Seats.end_all.Given as goal

abbrev pub invariant-loop-i : goal.invariant-loop-i
invariant-loop-i l =
    (l.self-inside.live.items ≡ taken_from 0 l.self-inside.places.items)
    × IsSingle l.self-inside.places.items
    × (map (ended_place (Deleted l.birth)) l.self-inside.places.items ≡ map (ended_place (Deleted l.birth)) l.initial.self-inside.places.items)
    × (l.self-inside.epoch ≡ l.initial.self-inside.epoch)

abbrev pub decreases-loop-i : goal.decreases-loop-i
decreases-loop-i l = vec_len l.self-inside.live
