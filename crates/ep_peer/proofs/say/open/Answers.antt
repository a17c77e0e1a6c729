use Rattle.std.proofs.Common.{subst}
use Rattle.ep_peer.specs.Parts.{SendsAs}
use Rattle.ep_peer.specs.Writer.{First, Goes, Listening, Opening, ready}
use Rattle.ep_peer.proofs.Parting.{err_is, says_err, says_ok}
use Rattle.ep_peer.proofs.say.open.Goals as goal

pub returns-in_err-say-clause-done : goal.returns-in_err-say-clause-done
returns-in_err-say-clause-done g c =
    let t = g.L.Link.traffic in
    let pad = c.args.pad.now in
    let token = c.args.token.now in
    says_err (t c.args.link.now) (t c.say.new.link) (Opening pad token) (ready pad token) (Goes (Listening First)) c.in_err-say.field-0.0 c.say.result c.from_residual-in_err-say.result _ (λ did out h. h)
    c.in_err-say.was (err_is _ _ c.from_residual-in_err-say.ensures.1) (subst (λ m. SendsAs m (t c.args.link.now) (t c.say.new.link) c.say.result) c.in_ok-first.ensures c.say.ensures.sent)

pub returns-clause-done : goal.returns-clause-done
returns-clause-done g c =
    let t = g.L.Link.traffic in
    let pad = c.args.pad.now in
    let token = c.args.token.now in
    says_ok (t c.args.link.now) (t c.say.new.link) (Opening pad token) (ready pad token) (Goes (Listening First)) c.in_ok-say.field-0 c.say.result (λ did out h. h)
    c.in_ok-say.was (subst (λ m. SendsAs m (t c.args.link.now) (t c.say.new.link) c.say.result) c.in_ok-first.ensures c.say.ensures.sent)
