use Rattle.std.proofs.Common.{arith}
use Rattle.ep_apply.proofs.Splices.{first_more, first_within}
use Rattle.ep_apply.proofs.splice.first_runs.Goals as goal

pub overflow_add-units : goal.overflow_add-units
overflow_add-units c =
    let within = first_within c.args.kind c.args.ops.now c.first.rest.now c.in-Some.later.now c.first.units c.passed-units.result c.in-Some.op.now c.first.invariant c.in-Some.ensures.cases.0 c.passed-units.ensures.is in
    omega (arith, c.requires, within)

pub first-preserved : goal.first-preserved
first-preserved c =
    first_more c.args.kind c.args.ops.now c.first.rest.now c.in-Some.later.now c.first.units c.passed-units.result c.in-Some.op.now c.first.invariant c.in-Some.ensures.cases.0 c.passed-units.ensures.is
    (c.is_bare.ensures.kind c.if-not-is_bare.false) (c.is_bare.ensures.bare c.if-not-is_bare.false)
