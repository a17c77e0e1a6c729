use Rattle.std.proofs.Common.{◌≡◌, length, IfOk, ap, ◌∙◌, subst}
use Rattle.ep_units.specs.Text.{Text}
use Rattle.ep_cs.specs.Doc.{text_of}
use Rattle.ep_cs.specs.Edit.{Edit}
use Rattle.ep_cs.specs.Change.{stamped}
use Rattle.ep_cs.specs.Fits.{keeps_pairs}
use Rattle.ep_cs.specs.Plain.{plain}
use Rattle.ep_cs.specs.Splice.{splice}
use Rattle.ep_history.specs.History.{newline_edit}
use Rattle.ep_step.proofs.Ending.{newline-splice}
use Rattle.ep_step.proofs.Uncut.{newline-pairs}
use Rattle.ep_step.proofs.newline.newline_change.Goals as goal

pub plain_splice-requires-clause-pairs : goal.plain_splice-requires-clause-pairs
plain_splice-requires-clause-pairs c =
    let doc = c.args.doc.now in
    ap (λ n. keeps_pairs (splice (length doc) n 0 (plain c.in_ok-text.text)).places (text_of doc)) c.len.ensures
    ∙ ap (λ (us : Text). keeps_pairs (splice (length doc) (length doc) 0 (plain us)).places (text_of doc)) c.in_ok-text.ensures
    ∙ newline-pairs doc c.reading-document.ensures.document

pub returns-clause-change : goal.returns-clause-change
returns-clause-change c =
    let doc = c.args.doc.now in
    let e : splice (length doc) c.len.result 0 (plain c.in_ok-text.text) ≡ newline_edit (length doc) =
    ap (λ n. splice (length doc) n 0 (plain c.in_ok-text.text)) c.len.ensures ∙ ap (λ (us : Text). splice (length doc) (length doc) 0 (plain us)) c.in_ok-text.ensures ∙ newline-splice (length doc) in
    subst (λ (e : Edit). IfOk c.plain_splice.result (λ change. change ≡ stamped e (text_of doc))) e c.plain_splice.ensures.change
