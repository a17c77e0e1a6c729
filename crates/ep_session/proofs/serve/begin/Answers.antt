use Rattle.std.proofs.Common.{[], ◌∷◌}
use Rattle.ep_session.specs.Session.{joining, Fetch, Hear}
use Rattle.ep_session.proofs.Running.{done_ended, err_is}
use Rattle.ep_session.proofs.Coming.{begin_on}
use Rattle.ep_session.proofs.serve.begin.Goals as goal

pub returns-in_err-join-clause-done : goal.returns-in_err-join-clause-done
returns-in_err-join-clause-done g c =
    let t = g.L.Link.traffic in
    let p = g.P.PadPort.known in
    let n = c.join.new in
    done_ended (g.C.Clock.may_show c.args.clock.now) (t c.args.link.now) (t n.link) (p c.args.pass.now) (p n.pass) c.args.place.now n.place (joining c.args.grant.now c.args.resume ∷ []) c.join.result (λ _. Fetch ∷ Hear ∷ []) c.from_residual.result _ c.in_err-join.field-0.0
    c.in_err-join.was (err_is _ _ c.from_residual.ensures.1) c.join.ensures.done

pub returns-clause-done : goal.returns-clause-done
returns-clause-done g c =
    let t = g.L.Link.traffic in
    let p = g.P.PadPort.known in
    let n = c.catch_up.new in
    begin_on (g.C.Clock.may_show c.args.clock.now) (t c.args.link.now) (t c.join.new.link) (t n.link) (p c.args.pass.now) (p c.join.new.pass) (p n.pass) c.args.place.now c.join.new.place n.place (joining c.args.grant.now c.args.resume) c.in_ok-join.field-0 c.catch_up.result c.in_ok-join.ensures.done c.catch_up.ensures.done
