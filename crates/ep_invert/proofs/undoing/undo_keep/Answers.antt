use Rattle.std.proofs.Common.{◌∙◌, sym, subst, take}
use Rattle.std.proofs.lemmas.Result.{IfOk-weaker}
use Rattle.ep_cs.specs.Doc.{text_of}
use Rattle.ep_cs.specs.Draft.{Draft}
use Rattle.ep_cs.specs.declared.op.Kind.TheVariants as kind
use Rattle.ep_invert.specs.Undoing.{restored}
use Rattle.ep_invert.specs.Writing.{GoesOn}
use Rattle.ep_invert.proofs.Pieces.{as_kind, lines_kept, bare_kept}
use Rattle.ep_invert.proofs.undoing.undo_keep.Goals as goal

pub keep-requires-clause-lined : goal.keep-requires-clause-lined
keep-requires-clause-lined c =
    let r = c.args.run.now in
    lines_kept r.units r.lines r.text.now c.args.rest.now c.args.out.now (as_kind r.kind kind.Keep r.units r.lines r.text.now c.args.rest.now c.args.out.now c.requires.kind c.requires.can)

pub returns-then-is_none-clause-written : goal.returns-then-is_none-clause-written
returns-then-is_none-clause-written c =
    let r = c.args.run.now in
    let d = c.args.out.now in
    let cs = c.args.rest.now in
    IfOk-weaker c.keep.result _ _ (λ _ e. subst (λ (x : Draft). GoesOn d x (restored r.attrs.now (take r.units cs)) (text_of (take r.units cs))) (sym e)
    (bare_kept r.units r.lines r.attrs.now r.text.now cs d (sym c.is_none.ensures ∙ c.if-is_none.true) (as_kind r.kind kind.Keep r.units r.lines r.text.now cs d c.requires.kind c.requires.can))) c.keep.ensures.ok
