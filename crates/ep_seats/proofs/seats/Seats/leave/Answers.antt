use Rattle.std.proofs.Common.{arith}
use Rattle.ep_seats.proofs.Standing.{live-inside, stands-left}
use Rattle.ep_seats.proofs.seats.Seats.leave.Goals as goal

pub overflow_sub-session : goal.overflow_sub-session
overflow_sub-session c =
    let l = c.in_ok-live.field-0 in
    (live-inside c.args.self.now c.args.session l.author.now l.read_only c.in_ok-live.ensures.live).0

pub end-requires : goal.end-requires
end-requires c =
    let l = c.in_ok-live.field-0 in
    let inside = live-inside c.args.self.now c.args.session l.author.now l.read_only c.in_ok-live.ensures.live in
    omega (arith, inside.0, inside.1)

pub returns-clause-left : goal.returns-clause-left
returns-clause-left c = λ pad h.
    let l = c.in_ok-live.field-0 in
    stands-left c.args.self.now c.end.new.self pad c.args.session l.author.now l.read_only h (c.in_ok-live.ensures.live pad h) c.end.ensures.epoch c.end.ensures.places
