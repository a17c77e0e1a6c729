use Rattle.std.proofs.Common.{◌∙◌, ◌-◌, ℕ, length, sym, ap, subst, arith}
use Rattle.std.proofs.lemmas.Result.{IfOk-weaker}
use Rattle.ep_cs.specs.Doc.{text_of}
use Rattle.ep_cs.specs.Edit.{Edit}
use Rattle.ep_cs.specs.Edit.Fate.{Keep}
use Rattle.ep_cs.specs.Change.{stamped}
use Rattle.ep_cs.specs.Fits.{AreDocuments}
use Rattle.ep_cs.proofs.Plain.{length-text_of}
use Rattle.ep_invert.specs.Paint.{paint}
use Rattle.ep_invert.proofs.Made.{front_of, stretch_room, paint_written, paint_short, paint_pieces}
use Rattle.ep_invert.proofs.painting.painted.Goals as goal

pub keep_next-requires-2-clause-inside : goal.keep_next-requires-2-clause-inside
keep_next-requires-2-clause-inside c =
    stretch_room c.args.doc.now c.args.stretch.at c.args.stretch.end c.len.result c.new-out.result c.keep_next.new.out c.none-as_it_is.result _ c.requires.order c.requires.inside c.new-out.ensures c.len.ensures c.in_ok-keep_next.ensures.written

pub finish-requires-clause-short : goal.finish-requires-clause-short
finish-requires-clause-short c =
    let us = text_of c.args.doc.now in
    let at = c.args.stretch.at in
    let end = c.args.stretch.end in
    let w =
    front_of c.args.doc.now at end c.len.result (Keep c.args.attrs.now) c.new-out.result c.keep_next.new.out c.keep_next-2.new.out c.none-as_it_is.result c.passing-rest.result c.keep_next.new.rest
    c.requires.order c.requires.inside c.new-out.ensures c.len.ensures c.none-as_it_is.ensures c.passing-rest.ensures c.in_ok-keep_next.ensures.rest c.in_ok-keep_next.ensures.written c.in_ok-keep_next-2.ensures.written in
    paint_short us at end c.new-out.result c.keep_next.new.out c.keep_next-2.new.out c.none-as_it_is.result c.args.attrs.now w (omega (arith, length-text_of c.args.doc.now, c.len.ensures))

pub finish-requires-clause-pieces : goal.finish-requires-clause-pieces
finish-requires-clause-pieces c =
    let us = text_of c.args.doc.now in
    let at = c.args.stretch.at in
    let end = c.args.stretch.end in
    let w =
    front_of c.args.doc.now at end c.len.result (Keep c.args.attrs.now) c.new-out.result c.keep_next.new.out c.keep_next-2.new.out c.none-as_it_is.result c.passing-rest.result c.keep_next.new.rest
    c.requires.order c.requires.inside c.new-out.ensures c.len.ensures c.none-as_it_is.ensures c.passing-rest.ensures c.in_ok-keep_next.ensures.rest c.in_ok-keep_next.ensures.written c.in_ok-keep_next-2.ensures.written in
    let is = paint_written us at end c.new-out.result c.keep_next.new.out c.keep_next-2.new.out c.none-as_it_is.result c.args.attrs.now w in
    subst (λ (e : Edit). AreDocuments e.places e.last) (sym is.edit) (paint_pieces (length us) at (end - at) c.args.attrs.now)

pub returns : goal.returns
returns c =
    let us = text_of c.args.doc.now in
    let at = c.args.stretch.at in
    let end = c.args.stretch.end in
    let w =
    front_of c.args.doc.now at end c.len.result (Keep c.args.attrs.now) c.new-out.result c.keep_next.new.out c.keep_next-2.new.out c.none-as_it_is.result c.passing-rest.result c.keep_next.new.rest
    c.requires.order c.requires.inside c.new-out.ensures c.len.ensures c.none-as_it_is.ensures c.passing-rest.ensures c.in_ok-keep_next.ensures.rest c.in_ok-keep_next.ensures.written c.in_ok-keep_next-2.ensures.written in
    let is = paint_written us at end c.new-out.result c.keep_next.new.out c.keep_next-2.new.out c.none-as_it_is.result c.args.attrs.now w in
    IfOk-weaker c.finish.result _ _ (λ x e. e ∙ is.change ∙ ap (λ (n : ℕ). stamped (paint n at (end - at) c.args.attrs.now) us) (length-text_of c.args.doc.now)) c.finish.ensures
