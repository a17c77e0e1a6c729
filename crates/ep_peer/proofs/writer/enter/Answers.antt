use Rattle.ep_peer.specs.Writer.{First, Goes, Listening, Opening, Reading}
use Rattle.ep_history.specs.Kept.{KeptClient}
use Rattle.ep_peer.proofs.Parting.{done_ended, done_on, err_is}
use Rattle.ep_peer.proofs.writer.enter.Goals as goal

pub returns-in_err-open-clause-done : goal.returns-in_err-open-clause-done
returns-in_err-open-clause-done g c =
    let t = g.L.Link.traffic in
    done_ended (t c.args.link.now) (t c.open.new.link) (Goes (Opening c.args.pad.now c.args.token.now)) c.open.result (λ _. Goes (Listening First)) c.from_residual.result _ c.in_err-open.field-0.0
    c.in_err-open.was (err_is _ _ c.from_residual.ensures.1) c.open.ensures.done

pub returns-clause-done : goal.returns-clause-done
returns-clause-done g c =
    let t = g.L.Link.traffic in
    done_on (t c.args.link.now) (t c.open.new.link) (t c.greet.new.link) (Goes (Opening c.args.pad.now c.args.token.now)) c.in_ok-open.field-0 c.greet.result (λ _. Goes (Listening First)) (λ (client : KeptClient). Goes (Reading 0 client))
    c.in_ok-open.ensures.done c.greet.ensures.done
