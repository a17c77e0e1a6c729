use Rattle.std.proofs.Common.{sym, ap, ◌∙◌, subst}
use Rattle.ep_cs.specs.Edit.{apply}
use Rattle.ep_cs.specs.Fits.{Fits}
use Rattle.ep_revs.specs.Revisions.{last_doc}
use Rattle.ep_pad_state.proofs.Lasting.{second-fits}
use Rattle.ep_pad_state.proofs.birth.push_all.Goals as goal

pub push-requires-in-Some-clause-fits : goal.push-requires-in-Some-clause-fits
push-requires-in-Some-clause-fits c =
    let s = second-fits c.args.revs.now.revs c.args.revised c.in-Some.field-0 c.requires.made c.in-Some.is in
    subst (λ us. Fits c.in-Some.field-0.rev.change (last_doc us)) (sym c.push.ensures.revs) s.fits

pub push-requires-in-Some-clause-doc : goal.push-requires-in-Some-clause-doc
push-requires-in-Some-clause-doc c =
    let s = second-fits c.args.revs.now.revs c.args.revised c.in-Some.field-0 c.requires.made c.in-Some.is in
    s.doc ∙ ap (λ us. apply c.in-Some.field-0.rev.change.edit (last_doc us)) (sym c.push.ensures.revs)
