use Rattle.std.proofs.Common.{sym, subst, [], ◌∷◌}
use Rattle.ep_session.specs.Says.{Done, due_of}
use Rattle.ep_session.specs.Session.{Look}
use Rattle.ep_session.specs.declared.hear.Asked.{Asked}
use Rattle.ep_session.proofs.Running.{SoFar, nothing_yet, done_anyway}
use Rattle.ep_session.proofs.act.act.Goals as goal

pub returns-in-Nothing-clause-done : goal.returns-in-Nothing-clause-done
returns-in-Nothing-clause-done g c =
    let t = g.L.Link.traffic c.args.link.now in
    let p = g.P.PadPort.known c.args.pass.now in
    let at = c.args.place.now in
    let shows = g.C.Clock.may_show c.args.clock.now in
    subst (λ (x : Asked). SoFar shows t t p p at at (due_of x) []) (sym c.in-Nothing.is) (nothing_yet shows t p at [])

pub returns-in-Slide-clause-done : goal.returns-in-Slide-clause-done
returns-in-Slide-clause-done g c =
    let t = g.L.Link.traffic in
    let p = g.P.PadPort.known in
    let at = c.args.place.now in
    let shows = g.C.Clock.may_show c.args.clock.now in
    let i = c.in-Slide in
    subst (λ (x : Asked). Done shows (t c.args.link.now) (t c.look.new.link) (p c.args.pass.now) (p c.look.new.pass) at at (due_of x) c.look.result (λ _. [])) (sym i.is)
    (done_anyway shows (t c.args.link.now) (t c.look.new.link) (p c.args.pass.now) (p c.look.new.pass) at at (Look i.start i.granularity i.request ∷ []) c.look.result (λ _. []) c.look.ensures.done)
