use Rattle.std.proofs.Common.{subst, sym, [], ◌∷◌}
use Rattle.ep_session.specs.Session.{Ask, Greet, nowhere}
use Rattle.ep_session.specs.Passing.{own_of}
use Rattle.ep_session.specs.Says.{Came}
use Rattle.ep_session.proofs.Coming.{came_behind, came_ended}
use Rattle.ep_session.proofs.session.seat.Goals as goal

pub returns-in-Ok-clause-came : goal.returns-in-Ok-clause-came
returns-in-Ok-clause-came g c =
    let t = g.L.Link.traffic in
    let n = c.at_desk.new in
    let r = c.at_desk.result in
    let desk = own_of g.G.DirPort.known r.desk in
    let hall = own_of g.P.PadPort.hall_known r.hall in
    let made = own_of g.P.PadPort.known r.pass in
    let shows = g.C.Clock.may_show c.args.clock.now in
    came_behind shows (t c.args.link.now) (t c.greet.new.link) (t n.link) desk hall made nowhere nowhere n.place (Greet c.args.drawn ∷ []) c.in-Ok.ready (λ ready. Ask c.args.drawn ready ∷ []) r.end
    (c.in-Ok.ensures.done c.args.drawn)
    (subst (λ at. Came shows (t c.greet.new.link) (t n.link) desk hall made at n.place (Ask c.args.drawn c.in-Ok.ready ∷ []) r.end) c.requires c.at_desk.ensures.came)

pub returns-in-Err-clause-came : goal.returns-in-Err-clause-came
returns-in-Err-clause-came g c =
    let t = g.L.Link.traffic in
    let shows = g.C.Clock.may_show c.args.clock.now in
    subst (λ at. Came shows (t c.args.link.now) (t c.greet.new.link) [] [] [] nowhere at (Greet c.args.drawn ∷ []) c.in-Err.end) (sym c.requires)
    (came_ended shows (t c.args.link.now) (t c.greet.new.link) nowhere nowhere (Greet c.args.drawn ∷ []) (λ ready. Ask c.args.drawn ready ∷ []) c.in-Err.end (c.in-Err.ensures.done c.args.drawn))
