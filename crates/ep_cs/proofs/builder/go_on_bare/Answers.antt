use Rattle.std.proofs.Common.{◌-◌, refl, arith}
use Rattle.ep_attr.specs.AttrMap.{none}
use Rattle.ep_cs.proofs.Longer.{last_goes_on, last_passes}
use Rattle.ep_cs.proofs.builder.go_on_bare.Goals as goal

pub go_on_bare-requires : goal.go_on_bare-requires
go_on_bare-requires c =
    let n = c.args.ops.now.len - 1 in
    record { room = last_passes c.args.ops.now.items n c.args.units c.in-Some.last.now (omega (arith, c.args.ops.now.ok.0, c.in-Some.ensures.variant.0 refl)) c.in-Some.ensures.value c.requires.room }

pub returns-in-Some-clause-longer : goal.returns-in-Some-clause-longer
returns-in-Some-clause-longer c = λ e.
    let n = c.args.ops.now.len - 1 in
    last_goes_on c.args.ops.now.items n c.args.units c.args.lines none c.in-Some.last.now c.go_on_bare.new.self (omega (arith, c.args.ops.now.ok.0, c.in-Some.ensures.variant.0 refl)) c.in-Some.ensures.value (c.go_on_bare.ensures.longer e)
