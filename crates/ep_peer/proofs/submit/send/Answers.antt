use Rattle.std.proofs.Common.{◌∙◌, ap, subst}
use Rattle.ep_history.specs.declared.submission.Submission.{Submission}
use Rattle.ep_wire_words.specs.declared.client.ClientMsg.TheVariants as msgs
use Rattle.ep_peer.specs.Parts.{SendsAs}
use Rattle.ep_peer.specs.Writer.{Commit, Goes, Listening, Reading, Sending, user_changes}
use Rattle.ep_peer.proofs.Parting.{done_on, err_is, says_err, says_ok}
use Rattle.ep_peer.proofs.submit.send.Goals as goal

pub returns-in_err-say-clause-done : goal.returns-in_err-say-clause-done
returns-in_err-say-clause-done g c n =
    let t = g.L.Link.traffic in
    let k = c.args.client.now in
    says_err (t c.args.link.now) (t c.say.new.link) (Sending n k) (user_changes k) (Goes (Listening (Commit n k))) c.in_err-say.field-0.0 c.say.result c.from_residual.result _ (λ did out h. h)
    c.in_err-say.was (err_is _ _ c.from_residual.ensures.1)
    (subst (λ m. SendsAs m (t c.args.link.now) (t c.say.new.link) c.say.result) (c.changes-edit.ensures ∙ ap (λ (s : Submission). msgs.Edit s.base s.change) c.requires) c.say.ensures.sent)

pub returns-clause-done : goal.returns-clause-done
returns-clause-done g c n =
    let t = g.L.Link.traffic in
    let k = c.args.client.now in
    done_on (t c.args.link.now) (t c.say.new.link) (t c.await_commit.new.link) (Goes (Sending n k)) c.in_ok-say.field-0 c.await_commit.result (λ _. Goes (Listening (Commit n k))) (λ _. Goes (Reading n c.await_commit.new.client))
    (says_ok (t c.args.link.now) (t c.say.new.link) (Sending n k) (user_changes k) (Goes (Listening (Commit n k))) c.in_ok-say.field-0 c.say.result (λ did out h. h)
    c.in_ok-say.was (subst (λ m. SendsAs m (t c.args.link.now) (t c.say.new.link) c.say.result) (c.changes-edit.ensures ∙ ap (λ (s : Submission). msgs.Edit s.base s.change) c.requires) c.say.ensures.sent))
    (c.await_commit.ensures.done n)
