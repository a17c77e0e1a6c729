use Rattle.ep_peer.specs.Parts.{read_to}
use Rattle.ep_peer.specs.Writer.{Commit, Goes, Listening, goes_on}
use Rattle.ep_peer.proofs.Parting.{done_ended, err_is, then_comes}
use Rattle.ep_peer.proofs.hear.hear_next.Goals as goal

pub returns-in_err-received-clause-done : goal.returns-in_err-received-clause-done
returns-in_err-received-clause-done g c n =
    let t = g.L.Link.traffic in
    let w = Commit n c.args.client.now in
    done_ended (t c.args.link.now) (t c.listen.new.link) (Goes (Listening w)) c.listen.result (read_to w) c.from_residual.result _ c.in_err-received.field-0.0 c.in_err-received.was (err_is _ _ c.from_residual.ensures.1) (c.listen.ensures.done w)

pub returns-clause-done : goal.returns-clause-done
returns-clause-done g c n =
    let t = g.L.Link.traffic in
    let w = Commit n c.args.client.now in
    then_comes (t c.args.link.now) (t c.listen.new.link) (Goes (Listening w)) c.in_ok-received.received c.hear.result (read_to w) (goes_on n c.hear.new.client) (c.in_ok-received.ensures.done w) (c.hear.ensures.heard n)
