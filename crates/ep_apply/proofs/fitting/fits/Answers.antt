use Rattle.std.proofs.Common.{◌∙◌, ap, sym}
use Rattle.ep_cs.specs.Fitting.{answer}
use Rattle.ep_cs.proofs.Refusals.{answer_fits}
use Rattle.ep_apply.proofs.Refusals.{runs_are}
use Rattle.ep_apply.proofs.fitting.fits.Goals as goal

pub returns-clause-exact : goal.returns-clause-exact
returns-clause-exact c =
    let l = sym c.len.ensures ∙ c.if-len-old_len.false ∙ c.old_len.ensures in
    c.follow_runs.ensures ∙ ap answer (runs_are c.args.change.now c.args.doc.now c.ops.result.now c.passing.result c.ops.ensures.normal l c.ops.ensures.runs c.passing.ensures)

pub returns-clause-fits : goal.returns-clause-fits
returns-clause-fits c =
    let l = sym c.len.ensures ∙ c.if-len-old_len.false ∙ c.old_len.ensures in
    let e = c.follow_runs.ensures ∙ ap answer (runs_are c.args.change.now c.args.doc.now c.ops.result.now c.passing.result c.ops.ensures.normal l c.ops.ensures.runs c.passing.ensures) in
    answer_fits c.args.change.now c.args.doc.now c.follow_runs.result c.ops.ensures.normal e
