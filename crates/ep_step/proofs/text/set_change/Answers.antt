use Rattle.std.proofs.Common.{◌≡◌, ◌-◌, length, IfOk, true, sym, ap, ◌∙◌, subst}
use Rattle.ep_cs.specs.Doc.{text_of}
use Rattle.ep_cs.specs.Edit.{Edit}
use Rattle.ep_cs.specs.Change.{stamped}
use Rattle.ep_cs.specs.Fits.{keeps_pairs}
use Rattle.ep_cs.specs.Plain.{plain}
use Rattle.ep_cs.specs.Splice.{splice}
use Rattle.ep_history.specs.Server.{set_edit}
use Rattle.ep_step.specs.Texts.{lacking}
use Rattle.ep_step.proofs.Setting.{set-splice}
use Rattle.ep_step.proofs.Uncut.{set-pairs}
use Rattle.ep_step.proofs.text.set_change.Goals as goal

pub plain_splice-requires-clause-pairs : goal.plain_splice-requires-clause-pairs
plain_splice-requires-clause-pairs c =
    let doc = c.args.doc.now in
    let text = c.args.text.now in
    ap (λ (e : Edit). keeps_pairs e.places (text_of doc)) ((λ i. splice (length doc) 0 (c.len.ensures i - c.lacking.ensures i) (plain text)) ∙ set-splice text doc)
    ∙ set-pairs text doc c.requires.text c.reading-document.ensures.document c.requires.line

pub returns-clause-change : goal.returns-clause-change
returns-clause-change c =
    let doc = c.args.doc.now in
    let text = c.args.text.now in
    let e : splice (length doc) 0 (c.len.result - c.lacking.result) (plain text) ≡ set_edit text doc = (λ i. splice (length doc) 0 (c.len.ensures i - c.lacking.ensures i) (plain text)) ∙ set-splice text doc in
    subst (λ (e : Edit). IfOk c.plain_splice.result (λ change. change ≡ stamped e (text_of doc))) e c.plain_splice.ensures.change
