use Rattle.std.proofs.Common.{◌++◌, [], ◌∷◌}
use Rattle.ep_session.specs.Session.{Hear, Fetch}
use Rattle.ep_session.proofs.Running.{left_by, heard_part, act_on, turn_on, done_ended, done_link, err_is}
use Rattle.ep_session.proofs.turn.turn.Goals as goal

pub returns-in_err-asked-clause-done : goal.returns-in_err-asked-clause-done
returns-in_err-asked-clause-done g c =
    let t = g.L.Link.traffic in
    let p = g.P.PadPort.known in
    let at = c.args.place.now in
    let shows = g.C.Clock.may_show c.args.clock.now in
    done_ended shows (t c.args.link.now) (t c.hear.new.link) (p c.args.pass.now) (p c.args.pass.now) at at (Hear ∷ []) c.hear.result left_by c.from_residual.result _ c.in_err-asked.field-0.0
    c.in_err-asked.was (err_is _ _ c.from_residual.ensures.1)
    (done_link shows (t c.args.link.now) (t c.hear.new.link) (p c.args.pass.now) at at (Hear ∷ []) c.hear.result left_by (heard_part (t c.args.link.now) (t c.hear.new.link) at c.hear.result c.hear.ensures.heard))

pub returns-in_err-act-clause-done : goal.returns-in_err-act-clause-done
returns-in_err-act-clause-done g c =
    let t = g.L.Link.traffic in
    let p = g.P.PadPort.known in
    let at = c.args.place.now in
    let n = c.act.new in
    let shows = g.C.Clock.may_show c.args.clock.now in
    done_ended shows (t c.args.link.now) (t n.link) (p c.args.pass.now) (p n.pass) at n.place (Hear ∷ []) c.act.result (λ _. [] ++ Fetch ∷ Hear ∷ []) c.from_residual-in_err-act.result _ c.in_err-act.field-0.0
    c.in_err-act.was (err_is _ _ c.from_residual-in_err-act.ensures.1)
    (act_on shows (t c.args.link.now) (t c.hear.new.link) (t n.link) (p c.args.pass.now) (p n.pass) at n.place c.in_ok-asked.asked c.act.result c.in_ok-asked.ensures.heard c.act.ensures.done)

pub returns-clause-done : goal.returns-clause-done
returns-clause-done g c =
    let t = g.L.Link.traffic in
    let p = g.P.PadPort.known in
    let n = c.catch_up.new in
    let shows = g.C.Clock.may_show c.args.clock.now in
    turn_on shows (t c.args.link.now) (t c.hear.new.link) (t c.act.new.link) (t n.link) (p c.args.pass.now) (p c.act.new.pass) (p n.pass) c.args.place.now c.act.new.place n.place c.in_ok-asked.asked c.in_ok-act.field-0 c.catch_up.result
    c.in_ok-asked.ensures.heard c.in_ok-act.ensures.done c.catch_up.ensures.done

pub returns-clause-legal : goal.returns-clause-legal
returns-clause-legal g c = λ h. c.catch_up.ensures.legal (c.act.ensures.legal h)
