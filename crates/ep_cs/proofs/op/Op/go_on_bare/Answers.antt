use Rattle.std.proofs.Common.{◌+◌, ◌∙◌, sym, arith}
use Rattle.ep_cs.proofs.Bare.{bare_is}
use Rattle.ep_cs.proofs.op.Op.go_on_bare.Goals as goal

pub returns-clause-longer : goal.returns-clause-longer
returns-clause-longer c = λ _.
    let b = bare_is c.args.self.now.kind c.args.self.now.attrs (sym c.is_bare.ensures ∙ c.if-not-is_bare.false) in
    (b.0, omega (arith, c.if-self-gt0.false), b.1, λ i. record { kind = b.0 i; units = c.args.self.now.units + c.args.units; lines = c.args.lines; attrs = b.1 i })
