use Rattle.ep_session.proofs.Passes.{fresh_own}
use Rattle.ep_pad.specs.Halls.{told_of, want}
use Rattle.ep_session.specs.Session.{wanting}
use Rattle.ep_session.proofs.Coming.{came_in, came_refused, given_still, noted_as, was_noted}
use Rattle.ep_session.proofs.serve.in_house.Goals as goal

pub returns-in-Ok-clause-came : goal.returns-in-Ok-clause-came
returns-in-Ok-clause-came g c =
    let t = g.L.Link.traffic in
    let p = g.P.PadPort.known in
    let h = g.P.PadPort.hall_known in
    let n = c.on_pad-end.new in
    came_in (g.C.Clock.may_show c.args.clock.now) (t c.args.link.now) (t n.link) (h c.hall-hall.result) (h c.pass.new.hall) (p c.in-Ok.pass) (p n.pass) c.args.place.now n.place c.args.grant.now c.args.resume (g.P.PadPort.cell_of c.in-Ok.pass) c.on_pad-end.result
    (fresh_own _ c.hall-hall.ensures.fresh) (was_noted (g.P.PadPort.is_register (g.P.PadPort.limits_of c.args.pads.now)) g.P.PadPort.cell_of (h c.hall-hall.result) (h c.pass.new.hall) (wanting c.args.grant.now c.args.resume) c.pass.result c.in-Ok.pass (noted_as c.args.grant.now c.args.resume (g.P.PadPort.is_register (g.P.PadPort.limits_of c.args.pads.now)) (h c.hall-hall.result) (h c.pass.new.hall) (told_of g.P.PadPort.cell_of c.pass.result) c.may_make.result c.may_make.ensures c.pass.ensures.noted) c.in-Ok.is) (fresh_own _ c.in-Ok.ensures.fresh) c.on_pad-end.ensures.done

pub returns-in-Err-clause-came : goal.returns-in-Err-clause-came
returns-in-Err-clause-came g c =
    let h = g.P.PadPort.hall_known in
    came_refused (g.P.PadPort.is_register (g.P.PadPort.limits_of c.args.pads.now)) g.P.PadPort.cell_of (g.C.Clock.may_show c.args.clock.now) (g.L.Link.traffic c.args.link.now) (h c.hall-hall.result) (h c.pass.new.hall) c.args.place.now c.args.grant.now c.args.resume c.pass.result c.in-Err.bad c.end_of_pass.result
    (fresh_own _ c.hall-hall.ensures.fresh) (noted_as c.args.grant.now c.args.resume (g.P.PadPort.is_register (g.P.PadPort.limits_of c.args.pads.now)) (h c.hall-hall.result) (h c.pass.new.hall) (told_of g.P.PadPort.cell_of c.pass.result) c.may_make.result c.may_make.ensures c.pass.ensures.noted) c.in-Err.is c.end_of_pass.ensures

pub returns-in-Ok-clause-one : goal.returns-in-Ok-clause-one
returns-in-Ok-clause-one g c =
    let h = g.P.PadPort.hall_known in
    let p = g.P.PadPort.known in
    let n = c.on_pad-end.new in
    given_still g.P.PadPort.name_of g.P.PadPort.cell_of (h c.hall-hall.result) (h c.pass.new.hall) c.args.grant.now.pad c.may_make.result c.in-Ok.pass n.pass (fresh_own _ c.hall-hall.ensures.fresh)
    (was_noted (g.P.PadPort.is_register (g.P.PadPort.limits_of c.args.pads.now)) g.P.PadPort.cell_of (h c.hall-hall.result) (h c.pass.new.hall) (want c.args.grant.now.pad c.may_make.result) c.pass.result c.in-Ok.pass c.pass.ensures.noted c.in-Ok.is)
    c.in-Ok.ensures.name (c.on_pad-end.ensures.pad.0, c.on_pad-end.ensures.pad.1)
