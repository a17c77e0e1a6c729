use Rattle.std.proofs.Common.{ap, sym, subst}
use Rattle.ep_client.specs.Submitting.{Submits}
use Rattle.ep_peer.specs.Parts.{Done}
use Rattle.ep_peer.specs.Writer.{Goes, Reading, submitting}
use Rattle.ep_peer.proofs.submit.submit.Goals as goal

pub returns-in-Some-clause-done : goal.returns-in-Some-clause-done
returns-in-Some-clause-done g c n =
    let t = g.L.Link.traffic in
    let k = c.args.client.now in
    let sent = subst (λ o. Submits k o c.submit.new.self) c.in-Some.is c.in_ok-submit.ensures.sent in
    subst (λ from. Done (t c.args.link.now) (t c.send.new.link) from c.send.result (λ _. Goes (Reading n c.send.new.client))) (sym (ap (submitting n k) sent.0)) (c.send.ensures.done n)
