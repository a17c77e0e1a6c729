use Rattle.std.proofs.Common.{◌≡◌, length, ap, sym, ◌∙◌, subst, vec_len, arith}
use Rattle.ep_seats.specs.Kept.{KeptSeats}
use Rattle.ep_seats.specs.Places.{taken_from, IsSingle}
use Rattle.ep_seats.proofs.Standing.{length-taken, single}
use Rattle.ep_seats.proofs.seats.Seats.live_count.Goals as goal

pub returns-clause-live : goal.returns-clause-live
returns-clause-live c = λ pad h.
    let s = c.self.inside in
    let size : vec_len s.live ≡ length s.live.items = omega (arith, s.live.ok.0) in
    c.len.ensures ∙ size ∙ ap length c.self.invariant.taken ∙ ap (λ (k : KeptSeats). length (taken_from 0 k.places)) c.self.view_is
    ∙ ap (λ ps. length (taken_from 0 ps)) (sym h.sessions) ∙ length-taken 0 pad.sessions

pub returns-clause-single : goal.returns-clause-single
returns-clause-single c = λ pad h. single _ pad h (subst (λ (k : KeptSeats). IsSingle k.places) c.self.view_is c.self.invariant.single)
