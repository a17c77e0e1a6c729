use Rattle.std.proofs.Common.{ap, sym, ◌∙◌}
use Rattle.std.specs.List.{list_any}
use Rattle.ep_seats.specs.Places.{sits}
use Rattle.ep_seats.proofs.Places.{found-any}
use Rattle.ep_seats.proofs.Standing.{any-sits}
use Rattle.ep_seats.proofs.seats.Seats.has_live.Goals as goal

pub returns : goal.returns
returns c = λ pad h.
    c.is_some.ensures ∙ found-any c.args.author.now c.args.self.now.places c.find_author.result c.find_author.ensures.found
    ∙ ap (list_any (sits c.args.author.now)) (sym h.sessions) ∙ any-sits c.args.author.now pad.sessions
