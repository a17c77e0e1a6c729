use Rattle.std.proofs.Common.{◌≡◌, ◌+◌, arith, sym, ◌∙◌}
use Rattle.ep_attr.proofs.SameMap.{exact_map}
use Rattle.ep_cs.proofs.op.Op.go_on.Goals as goal

pub returns-then-same-clause-longer : goal.returns-then-same-clause-longer
returns-then-same-clause-longer c = λ e.
    let attrs : c.args.self.now.attrs ≡ c.args.attrs.now = exact_map c.args.self.now.attrs c.args.attrs.now (sym c.eq-same.ensures ∙ e) in
    (c.in-Keep.is, omega (arith, c.if-self-gt0.false), attrs, λ i. record { kind = c.in-Keep.is i; units = c.args.self.now.units + c.args.units; lines = c.args.lines; attrs = attrs i })
