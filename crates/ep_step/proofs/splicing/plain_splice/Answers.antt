use Rattle.std.proofs.Common.{◌≡◌, length, ap, ◌∙◌, sym}
use Rattle.ep_units.specs.Text.{Text}
use Rattle.ep_attr.specs.AttrMap.{AttrMap, none, after}
use Rattle.ep_cs.specs.Doc.{Doc, text_of}
use Rattle.ep_cs.specs.Runs.{cells}
use Rattle.ep_cs.specs.Change.{stamped}
use Rattle.ep_cs.specs.Plain.{plain}
use Rattle.ep_cs.specs.Splice.{splice}
use Rattle.ep_invert.specs.Refusal.{cause}
use Rattle.ep_history.proofs.Lists.{none_some}
use Rattle.ep_step.proofs.Uncut.{plain_cells, never}
use Rattle.ep_step.proofs.splicing.plain_splice.Goals as goal

pub unreachable-requires : goal.unreachable-requires
unreachable-requires c =
    let piece = ap (λ (m : AttrMap). cells (after none m) c.args.text.now) c.none-attrs.ensures ∙ plain_cells c.args.text.now in
    none_some (sym (never _ _ _ _ c.args.at c.args.n c.args.doc.now piece c.in-Err-Place.is c.splice.ensures.refused c.requires.inside c.requires.pairs) ∙ ap cause c.in-Err-Place.field-0-is)

pub unreachable-requires-in-Err-CutsPair : goal.unreachable-requires-in-Err-CutsPair
unreachable-requires-in-Err-CutsPair c =
    let piece = ap (λ (m : AttrMap). cells (after none m) c.args.text.now) c.none-attrs.ensures ∙ plain_cells c.args.text.now in
    none_some (sym (never _ _ _ _ c.args.at c.args.n c.args.doc.now piece c.in-Err-CutsPair.is c.splice.ensures.refused c.requires.inside c.requires.pairs) ∙ ap cause c.in-Err-CutsPair.field-0-is)

pub returns-in-Ok-clause-change : goal.returns-in-Ok-clause-change
returns-in-Ok-clause-change c =
    let doc = c.args.doc.now in
    let piece = ap (λ (m : AttrMap). cells (after none m) c.args.text.now) c.none-attrs.ensures ∙ plain_cells c.args.text.now in
    c.in-Ok.ensures.change ∙ ap (λ (cs : Doc). stamped (splice (length doc) c.args.at c.args.n cs) (text_of doc)) piece
