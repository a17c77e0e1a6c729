use Rattle.std.proofs.Common.{sym, ap, ◌∙◌, subst, ◌++◌}
use Rattle.ep_history.specs.History.{made, newline}
use Rattle.ep_step.specs.Revised.{AreNewRevs, revs_of}
use Rattle.ep_step.specs.Texts.{first_edit}
use Rattle.ep_move.proofs.last.Last.first.Goals as goal

pub push-requires : goal.push-requires
push-requires c =
    subst (λ doc. AreNewRevs c.into_revs_of_nobody-revised.result doc) (sym c.in_ok-last.ensures.doc)
    (c.into_revs_of_nobody-revised.ensures.made (first_edit c.args.text.now) newline c.in-Ok.ensures.made c.in-Ok.ensures.fits)

pub returns-clause-revs : goal.returns-clause-revs
returns-clause-revs c =
    let e = c.into_revs_of_nobody-revised.ensures.revs (first_edit c.args.text.now) newline c.in-Ok.ensures.made in
    let l = c.first_steps_are_first_revisions.ensures c.args.time c.args.text.now in
    c.in_ok-push.ensures.revs ∙ (ap (λ us. us ++ revs_of c.into_revs_of_nobody-revised.result) c.in_ok-last.ensures.revs ∙ (e ∙ l))

pub returns-clause-doc : goal.returns-clause-doc
returns-clause-doc c =
    let e = c.into_revs_of_nobody-revised.ensures.revs (first_edit c.args.text.now) newline c.in-Ok.ensures.made in
    let l = c.first_steps_are_first_revisions.ensures c.args.time c.args.text.now in
    c.in_ok-push.ensures.doc ∙ (ap (λ doc. made doc (revs_of c.into_revs_of_nobody-revised.result)) c.in_ok-last.ensures.doc ∙ ap (made newline) (e ∙ l))
