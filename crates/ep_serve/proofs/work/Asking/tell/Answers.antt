use Rattle.std.proofs.Common.{subst, sym}
use Rattle.std.specs.Arc.{arc_value}
use Rattle.ep_api.specs.Legal.{Sits, Stands, Waits}
use Rattle.ep_serve.specs.Asked.{Answers}
use Rattle.ep_serve.proofs.work.Asking.tell.Goals as goal

pub returns : goal.returns
returns g c =
    let pads = g.P.PadPort in
    let dir = g.P.DirPort in
    let port = arc_value c.args.self.pads.pads in
    rw (sym c.deref-2.ensures) (rw (sym c.deref-3.ensures) (rw (sym c.as_str.ensures.value)
    (subst (λ p. Answers pads.hall_known dir.known (λ pass. pads.known pass.pass) (λ pass. pads.name_of pass.pass) (λ pass. pads.cell_of pass.pass)
    (Waits (pads.is_hall port) (pads.is_register (pads.limits_of port)) pads.hall_known)
    (Sits (dir.is_of p) g.P.Store.Keeper.always_tells (dir.begun p) dir.known)
    (Stands (λ pass. pads.is_of port pass.pass) (pads.limits_of port) g.P.Store.Disk.told g.P.Store.Device-1.failures (λ pass. pads.begun pass.pass) (λ pass. pads.known pass.pass))
    (g.C.Clock.may_show c.deref-2.result.now) c.as_str.result.now (g.D.Draws.to_come c.args.self.draws) (g.D.Draws.to_come c.answer_caller-answered.new.draws)
    g.A.Source.left g.A.Sink.held g.A.Device.failures c.args.self.caller c.answer_caller-answered.new.caller c.answer_caller-answered.result)
    c.deref.ensures c.answer_caller-answered.ensures.answers)))
