use Rattle.std.proofs.Common.{refl, [], ◌∷◌}
use Rattle.std.specs.Prelude.{Err}
use Rattle.ep_session.specs.Session.{joining, Hear}
use Rattle.ep_session.proofs.Running.{done_ended}
use Rattle.ep_session.proofs.Coming.{pad_on}
use Rattle.ep_session.proofs.serve.on_pad.Goals as goal

pub returns-in-Ok-clause-done : goal.returns-in-Ok-clause-done
returns-in-Ok-clause-done g c =
    let t = g.L.Link.traffic in
    let p = g.P.PadPort.known in
    let m = c.begin.new in
    let n = c.turns.new in
    pad_on (g.C.Clock.may_show c.args.clock.now) (t c.args.link.now) (t m.link) (t n.link) (p c.args.pass.now) (p m.pass) (p n.pass) c.args.place.now m.place n.place (joining c.args.grant.now c.args.resume) c.in-Ok.field-0 c.turns.result c.in-Ok.ensures.done c.turns.ensures.done

pub returns-in-Err-clause-done : goal.returns-in-Err-clause-done
returns-in-Err-clause-done g c =
    let t = g.L.Link.traffic in
    let p = g.P.PadPort.known in
    let n = c.begin.new in
    let e = c.in-Err.end in
    done_ended {X = Unit {0}} {Y = Unit {0}} (g.C.Clock.may_show c.args.clock.now) (t c.args.link.now) (t n.link) (p c.args.pass.now) (p n.pass) c.args.place.now n.place (joining c.args.grant.now c.args.resume ∷ []) (Err e) (λ _. Hear ∷ []) (Err e) (λ _. []) e refl refl c.in-Err.ensures.done
