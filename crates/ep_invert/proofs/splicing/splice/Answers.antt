use Rattle.std.proofs.Common.{◌≡◌, ◌-◌, ◌∙◌, length, ap, arith}
use Rattle.ep_attr.specs.AttrMap.{none, after}
use Rattle.ep_cs.specs.Doc.{text_of}
use Rattle.ep_cs.specs.Runs.{cells}
use Rattle.ep_cs.specs.Change.{stamped}
use Rattle.ep_cs.specs.Splice.{splice}
use Rattle.ep_cs.proofs.Splices.{length-splice}
use Rattle.ep_invert.specs.declared.bad.SpliceBad.TheVariants as bad
use Rattle.ep_invert.proofs.Answered.{splice_asked, same_refusal, refused_so, found_right, found_made, found_fits, ends_in_order, ends_inside, as_long, nothing_gone}
use Rattle.ep_invert.proofs.splicing.splice.Goals as goal

pub returns-in_err-stretch-clause-refused : goal.returns-in_err-stretch-clause-refused
returns-in_err-stretch-clause-refused c =
    refused_so c.from_residual.result c.in_err-stretch.field-0.0 c.from_residual.ensures.1 ∙ c.in_err-stretch.ensures
    ∙ same_refusal (splice (length c.args.doc.now) c.args.at c.args.n (cells (after none c.args.attrs.now) c.args.text.now)) (λ a k. splice (length c.args.doc.now) a k (cells (after none c.args.attrs.now) c.args.text.now)) c.args.at c.args.n c.replaces.result c.args.doc.now (λ h. splice_asked c.args.doc.now c.args.at c.args.n (after none c.args.attrs.now) c.args.text.now c.replaces.result c.replaces.ensures h)

pub returns-in_err-spliced-clause-refused : goal.returns-in_err-spliced-clause-refused
returns-in_err-spliced-clause-refused c =
    refused_so c.from_residual-in_err-spliced.result bad.NoMemory c.from_residual-in_err-spliced.ensures.1
    ∙ found_right (splice (length c.args.doc.now) c.args.at c.args.n (cells (after none c.args.attrs.now) c.args.text.now)) (λ a k. splice (length c.args.doc.now) a k (cells (after none c.args.attrs.now) c.args.text.now)) c.args.at c.args.n c.replaces.result c.args.doc.now c.in_ok-stretch.stretch c.in_ok-stretch.ensures (splice_asked c.args.doc.now c.args.at c.args.n (after none c.args.attrs.now) c.args.text.now c.replaces.result c.replaces.ensures c.in_ok-stretch.ensures.inside)

pub spliced-requires-clause-order : goal.spliced-requires-clause-order
spliced-requires-clause-order c = ends_in_order c.args.at c.args.n c.replaces.result c.args.doc.now c.in_ok-stretch.stretch c.in_ok-stretch.ensures

pub spliced-requires-clause-inside : goal.spliced-requires-clause-inside
spliced-requires-clause-inside c = ends_inside c.args.at c.args.n c.replaces.result c.args.doc.now c.in_ok-stretch.stretch c.in_ok-stretch.ensures

pub spliced-requires-clause-short : goal.spliced-requires-clause-short
spliced-requires-clause-short c =
    let text : length c.as_slice.result.now ≡ length c.args.text.now = ap length c.as_slice.ensures in
    omega (arith, text, as_long c.args.at c.args.n c.replaces.result c.args.doc.now c.in_ok-stretch.stretch (length c.args.text.now) c.in_ok-stretch.ensures (nothing_gone c.args.n (length c.args.text.now) c.replaces.result c.replaces.ensures) (c.requires.short c.in_ok-stretch.ensures.inside))

pub returns-clause-change : goal.returns-clause-change
returns-clause-change c =
    found_made (splice (length c.args.doc.now) c.args.at c.args.n (cells (after none c.args.attrs.now) c.args.text.now)) (λ a k. splice (length c.args.doc.now) a k (cells (after none c.args.attrs.now) c.args.text.now)) c.args.at c.args.n c.replaces.result c.args.doc.now c.in_ok-stretch.stretch c.in_ok-spliced.field-0 c.in_ok-stretch.ensures (splice_asked c.args.doc.now c.args.at c.args.n (after none c.args.attrs.now) c.args.text.now c.replaces.result c.replaces.ensures c.in_ok-stretch.ensures.inside)
    (c.in_ok-spliced.ensures ∙ (λ i. stamped (splice (length c.args.doc.now) c.in_ok-stretch.stretch.at (c.in_ok-stretch.stretch.end - c.in_ok-stretch.stretch.at) (cells (after none c.args.attrs.now) (c.as_slice.ensures i))) (text_of c.args.doc.now)))

pub returns-clause-fits : goal.returns-clause-fits
returns-clause-fits c =
    found_fits (splice (length c.args.doc.now) c.args.at c.args.n (cells (after none c.args.attrs.now) c.args.text.now)) (λ a k. splice (length c.args.doc.now) a k (cells (after none c.args.attrs.now) c.args.text.now)) c.args.at c.args.n c.replaces.result c.args.doc.now c.in_ok-stretch.stretch c.in_ok-spliced.field-0 c.in_ok-stretch.ensures (splice_asked c.args.doc.now c.args.at c.args.n (after none c.args.attrs.now) c.args.text.now c.replaces.result c.replaces.ensures c.in_ok-stretch.ensures.inside) (length-splice (length c.args.doc.now) c.args.at c.args.n (cells (after none c.args.attrs.now) c.args.text.now) c.in_ok-stretch.ensures.inside) (returns-clause-change c)

pub returns-clause-refused : goal.returns-clause-refused
returns-clause-refused c =
    found_right (splice (length c.args.doc.now) c.args.at c.args.n (cells (after none c.args.attrs.now) c.args.text.now)) (λ a k. splice (length c.args.doc.now) a k (cells (after none c.args.attrs.now) c.args.text.now)) c.args.at c.args.n c.replaces.result c.args.doc.now c.in_ok-stretch.stretch c.in_ok-stretch.ensures (splice_asked c.args.doc.now c.args.at c.args.n (after none c.args.attrs.now) c.args.text.now c.replaces.result c.replaces.ensures c.in_ok-stretch.ensures.inside)
