use Rattle.std.proofs.Common.{◌≡◌, None, sym, ◌∙◌, subst}
use Rattle.ep_cs.specs.Change.{Change}
use Rattle.ep_cs.specs.Doc.{Doc}
use Rattle.ep_cs.specs.Edit.{Edit, apply}
use Rattle.ep_cs.specs.Fits.{Fits}
use Rattle.ep_history.specs.Kept.{IsKeptSound}
use Rattle.ep_client.specs.Restored.{restore_fault, sent_edit}
use Rattle.ep_editor.proofs.Keeping.{kept-fits, sent-same}
use Rattle.ep_editor.proofs.entered.Entered.keep.Goals as goal

pub returns-clause-fits : goal.returns-clause-fits
returns-clause-fits c =
    let k = c.client-client.result.now in
    let o = c.in_ok-sent.sent in
    let sound = subst IsKeptSound (sym c.client-client.ensures.shown) c.client-client.ensures.sound in
    let both = sent-same o k.sent_in k.sent k.doc c.in_ok-sent.ensures.sent sound.nothing_sent in
    let local =
    subst (λ (x : Change). Fits x (apply (sent_edit k.doc o) k.doc)) (sym c.in_ok-local.ensures)
    (subst (λ (e : Edit). Fits c.unsubmitted.result.now (apply e k.doc)) both.1 c.unsubmitted.ensures.fits) in
    subst (λ (d : Doc). restore_fault d o c.in_ok-local.local ≡ None) (sym (c.in_ok-doc.ensures ∙ c.doc.ensures)) (kept-fits k.doc o c.in_ok-local.local c.in_ok-sent.ensures.fits local)
