use Rattle.ep_peer.specs.Parts.{read_to}
use Rattle.ep_peer.specs.Writer.{First, Goes, Listening}
use Rattle.ep_peer.proofs.Parting.{done_ended, err_is, then_comes}
use Rattle.ep_peer.proofs.hear.greet.Goals as goal

pub returns-in_err-received-clause-done : goal.returns-in_err-received-clause-done
returns-in_err-received-clause-done g c =
    let t = g.L.Link.traffic in
    done_ended (t c.args.link.now) (t c.listen.new.link) (Goes (Listening First)) c.listen.result (read_to First) c.from_residual.result _ c.in_err-received.field-0.0 c.in_err-received.was (err_is _ _ c.from_residual.ensures.1) (c.listen.ensures.done First)

pub returns-clause-done : goal.returns-clause-done
returns-clause-done g c =
    let t = g.L.Link.traffic in
    then_comes (t c.args.link.now) (t c.listen.new.link) (Goes (Listening First)) c.in_ok-received.received c.start.result (read_to First) _ (c.in_ok-received.ensures.done First) c.start.ensures.started
