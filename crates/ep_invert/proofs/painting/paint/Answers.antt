use Rattle.std.proofs.Common.{◌∙◌, length}
use Rattle.ep_invert.specs.declared.bad.SpliceBad.TheVariants as bad
use Rattle.ep_invert.specs.Paint.{paint}
use Rattle.ep_invert.proofs.Answered.{paint_asked, same_refusal, refused_so, found_right, found_made, found_fits, ends_in_order, ends_inside, length-paint}
use Rattle.ep_invert.proofs.painting.paint.Goals as goal

pub returns-in_err-stretch-clause-refused : goal.returns-in_err-stretch-clause-refused
returns-in_err-stretch-clause-refused c =
    refused_so c.from_residual.result c.in_err-stretch.field-0.0 c.from_residual.ensures.1 ∙ c.in_err-stretch.ensures
    ∙ same_refusal (paint (length c.args.doc.now) c.args.at c.args.n c.args.attrs.now) (λ a k. paint (length c.args.doc.now) a k c.args.attrs.now) c.args.at c.args.n c.paints.result c.args.doc.now (λ h. paint_asked c.args.doc.now c.args.at c.args.n c.args.attrs.now c.paints.result c.paints.ensures h)

pub returns-in_err-painted-clause-refused : goal.returns-in_err-painted-clause-refused
returns-in_err-painted-clause-refused c =
    refused_so c.from_residual-in_err-painted.result bad.NoMemory c.from_residual-in_err-painted.ensures.1
    ∙ found_right (paint (length c.args.doc.now) c.args.at c.args.n c.args.attrs.now) (λ a k. paint (length c.args.doc.now) a k c.args.attrs.now) c.args.at c.args.n c.paints.result c.args.doc.now c.in_ok-stretch.stretch c.in_ok-stretch.ensures (paint_asked c.args.doc.now c.args.at c.args.n c.args.attrs.now c.paints.result c.paints.ensures c.in_ok-stretch.ensures.inside)

pub painted-requires-clause-order : goal.painted-requires-clause-order
painted-requires-clause-order c = ends_in_order c.args.at c.args.n c.paints.result c.args.doc.now c.in_ok-stretch.stretch c.in_ok-stretch.ensures

pub painted-requires-clause-inside : goal.painted-requires-clause-inside
painted-requires-clause-inside c = ends_inside c.args.at c.args.n c.paints.result c.args.doc.now c.in_ok-stretch.stretch c.in_ok-stretch.ensures

pub returns-clause-change : goal.returns-clause-change
returns-clause-change c =
    found_made (paint (length c.args.doc.now) c.args.at c.args.n c.args.attrs.now) (λ a k. paint (length c.args.doc.now) a k c.args.attrs.now) c.args.at c.args.n c.paints.result c.args.doc.now c.in_ok-stretch.stretch c.in_ok-painted.field-0 c.in_ok-stretch.ensures (paint_asked c.args.doc.now c.args.at c.args.n c.args.attrs.now c.paints.result c.paints.ensures c.in_ok-stretch.ensures.inside)
    c.in_ok-painted.ensures

pub returns-clause-fits : goal.returns-clause-fits
returns-clause-fits c =
    found_fits (paint (length c.args.doc.now) c.args.at c.args.n c.args.attrs.now) (λ a k. paint (length c.args.doc.now) a k c.args.attrs.now) c.args.at c.args.n c.paints.result c.args.doc.now c.in_ok-stretch.stretch c.in_ok-painted.field-0 c.in_ok-stretch.ensures (paint_asked c.args.doc.now c.args.at c.args.n c.args.attrs.now c.paints.result c.paints.ensures c.in_ok-stretch.ensures.inside) (length-paint (length c.args.doc.now) c.args.at c.args.n c.args.attrs.now c.in_ok-stretch.ensures.inside) (returns-clause-change c)

pub returns-clause-refused : goal.returns-clause-refused
returns-clause-refused c =
    found_right (paint (length c.args.doc.now) c.args.at c.args.n c.args.attrs.now) (λ a k. paint (length c.args.doc.now) a k c.args.attrs.now) c.args.at c.args.n c.paints.result c.args.doc.now c.in_ok-stretch.stretch c.in_ok-stretch.ensures (paint_asked c.args.doc.now c.args.at c.args.n c.args.attrs.now c.paints.result c.paints.ensures c.in_ok-stretch.ensures.inside)
