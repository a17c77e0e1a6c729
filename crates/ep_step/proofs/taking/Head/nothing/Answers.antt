use Rattle.std.proofs.Common.{◌≡◌, ◌+◌, ◌<◌, ◌≤◌, length, arith, ◌∙◌}
use Rattle.ep_history.specs.History.{step_doc}
use Rattle.ep_history.specs.declared.pad_bad.PadBad.TheVariants.{TooLong}
use Rattle.ep_step.specs.Answers.{units_fault}
use Rattle.ep_step.proofs.Answering.{refused_by, unrefused, over, within}
use Rattle.ep_step.proofs.Lengths.{nothing-length}
use Rattle.ep_step.proofs.taking.Head.nothing.Goals as goal

pub returns-then-units-self-clause-refused : goal.returns-then-units-self-clause-refused
returns-then-units-self-clause-refused c =
    let doc = c.args.self.now.doc.now in
    let n = nothing-length c.args.change.edit doc c.from.result c.from-2.result c.lacks_newline.result c.requires.fits.length c.requires.nothing (c.from.ensures ∙ c.len.ensures) c.from-2.ensures c.lacks_newline.ensures in
    let h : c.args.self.now.limit < c.from.result + c.from-2.result = omega arith in
    refused_by _ _ _ (over c.args.self.now.limit (c.from.result + c.from-2.result) (length (step_doc c.args.change.edit doc)) n h)

pub returns-clause-refused : goal.returns-clause-refused
returns-clause-refused c =
    let doc = c.args.self.now.doc.now in
    let n = nothing-length c.args.change.edit doc c.from.result c.from-2.result c.lacks_newline.result c.requires.fits.length c.requires.nothing (c.from.ensures ∙ c.len.ensures) c.from-2.ensures c.lacks_newline.ensures in
    let h : c.from.result + c.from-2.result ≤ c.args.self.now.limit = omega arith in
    unrefused _ _ (within c.args.self.now.limit (c.from.result + c.from-2.result) (length (step_doc c.args.change.edit doc)) n h)
