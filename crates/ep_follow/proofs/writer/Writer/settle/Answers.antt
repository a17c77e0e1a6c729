use Rattle.std.proofs.Common.{ap, arith}
use Rattle.ep_cs.specs.Draft.{Draft}
use Rattle.ep_cs.specs.Steps.{passed}
use Rattle.ep_follow.proofs.Writers.{said_passed, kept_passed}
use Rattle.ep_follow.proofs.writer.Writer.settle.Goals as goal

pub keep_bare-requires-clause-inside : goal.keep_bare-requires-clause-inside
keep_bare-requires-clause-inside c = omega (arith, said_passed c.args.self.now, c.requires.inside)

pub keep_bare-requires-2-clause-inside : goal.keep_bare-requires-2-clause-inside
keep_bare-requires-2-clause-inside c =
    let w = c.args.self.now in
    let first = c.in_ok-keep_bare.ensures.ok in
    omega (arith, ap (λ (d : Draft). passed d.steps) first, ap (λ (d : Draft). d.old) first, kept_passed w.out.steps w.lined, said_passed w, c.requires.inside)
