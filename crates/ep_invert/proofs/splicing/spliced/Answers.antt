use Rattle.std.proofs.Common.{◌∙◌, ◌-◌, ℕ, length, sym, ap, subst, arith}
use Rattle.std.proofs.lemmas.Result.{IfOk-weaker}
use Rattle.ep_attr.specs.AttrMap.{none, after}
use Rattle.ep_cs.specs.Doc.{text_of}
use Rattle.ep_cs.specs.Edit.{Edit}
use Rattle.ep_cs.specs.Edit.Fate.{Drop}
use Rattle.ep_cs.specs.Change.{stamped}
use Rattle.ep_cs.specs.Fits.{AreDocuments}
use Rattle.ep_cs.specs.Runs.{cells}
use Rattle.ep_cs.specs.Splice.{splice}
use Rattle.ep_cs.proofs.Plain.{length-text_of}
use Rattle.ep_invert.proofs.Made.{front_of, stretch_room, insert_room, splice_written, splice_short, splice_pieces, document_of_cells}
use Rattle.ep_invert.proofs.splicing.spliced.Goals as goal

pub drop_next-requires-clause-inside : goal.drop_next-requires-clause-inside
drop_next-requires-clause-inside c =
    stretch_room c.args.doc.now c.args.stretch.at c.args.stretch.end c.len.result c.new-out.result c.keep_next.new.out c.none-as_it_is.result _ c.requires.order c.requires.inside c.new-out.ensures c.len.ensures c.in_ok-keep_next.ensures.written

pub insert_text-requires : goal.insert_text-requires
insert_text-requires c =
    let us = text_of c.args.doc.now in
    let at = c.args.stretch.at in
    let end = c.args.stretch.end in
    let w =
    front_of c.args.doc.now at end c.len.result Drop c.new-out.result c.keep_next.new.out c.drop_next.new.out c.none-as_it_is.result c.passing-rest.result c.keep_next.new.rest
    c.requires.order c.requires.inside c.new-out.ensures c.len.ensures c.none-as_it_is.ensures c.passing-rest.ensures c.in_ok-keep_next.ensures.rest c.in_ok-keep_next.ensures.written c.in_ok-drop_next.ensures.written in
    insert_room us c.args.text.now at end c.new-out.result c.keep_next.new.out c.drop_next.new.out c.none-as_it_is.result w (omega (arith, length-text_of c.args.doc.now, c.requires.short))

pub finish-requires-clause-short : goal.finish-requires-clause-short
finish-requires-clause-short c =
    let us = text_of c.args.doc.now in
    let at = c.args.stretch.at in
    let end = c.args.stretch.end in
    let w =
    front_of c.args.doc.now at end c.len.result Drop c.new-out.result c.keep_next.new.out c.drop_next.new.out c.none-as_it_is.result c.passing-rest.result c.keep_next.new.rest
    c.requires.order c.requires.inside c.new-out.ensures c.len.ensures c.none-as_it_is.ensures c.passing-rest.ensures c.in_ok-keep_next.ensures.rest c.in_ok-keep_next.ensures.written c.in_ok-drop_next.ensures.written in
    splice_short us c.args.text.now at end c.new-out.result c.keep_next.new.out c.drop_next.new.out c.insert_text.new.out c.none-as_it_is.result (after none c.args.attrs.now) w c.in_ok-insert_text.ensures (omega (arith, length-text_of c.args.doc.now, c.requires.short))

pub finish-requires-clause-pieces : goal.finish-requires-clause-pieces
finish-requires-clause-pieces c =
    let us = text_of c.args.doc.now in
    let at = c.args.stretch.at in
    let end = c.args.stretch.end in
    let w =
    front_of c.args.doc.now at end c.len.result Drop c.new-out.result c.keep_next.new.out c.drop_next.new.out c.none-as_it_is.result c.passing-rest.result c.keep_next.new.rest
    c.requires.order c.requires.inside c.new-out.ensures c.len.ensures c.none-as_it_is.ensures c.passing-rest.ensures c.in_ok-keep_next.ensures.rest c.in_ok-keep_next.ensures.written c.in_ok-drop_next.ensures.written in
    let m = after none c.args.attrs.now in
    let is = splice_written us c.args.text.now at end c.new-out.result c.keep_next.new.out c.drop_next.new.out c.insert_text.new.out c.none-as_it_is.result m w c.in_ok-insert_text.ensures in
    subst (λ (e : Edit). AreDocuments e.places e.last) (sym is.edit) (splice_pieces (length us) at (end - at) (cells m c.args.text.now) (document_of_cells m c.args.text.now c.requires.text))

pub returns : goal.returns
returns c =
    let us = text_of c.args.doc.now in
    let at = c.args.stretch.at in
    let end = c.args.stretch.end in
    let w =
    front_of c.args.doc.now at end c.len.result Drop c.new-out.result c.keep_next.new.out c.drop_next.new.out c.none-as_it_is.result c.passing-rest.result c.keep_next.new.rest
    c.requires.order c.requires.inside c.new-out.ensures c.len.ensures c.none-as_it_is.ensures c.passing-rest.ensures c.in_ok-keep_next.ensures.rest c.in_ok-keep_next.ensures.written c.in_ok-drop_next.ensures.written in
    let m = after none c.args.attrs.now in
    let is = splice_written us c.args.text.now at end c.new-out.result c.keep_next.new.out c.drop_next.new.out c.insert_text.new.out c.none-as_it_is.result m w c.in_ok-insert_text.ensures in
    IfOk-weaker c.finish.result _ _ (λ x e. e ∙ is.change ∙ ap (λ (n : ℕ). stamped (splice n at (end - at) (cells m c.args.text.now)) us) (length-text_of c.args.doc.now)) c.finish.ensures
