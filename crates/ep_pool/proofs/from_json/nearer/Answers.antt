use Rattle.std.proofs.Common.{arith, ap, ◌∙◌}
use Rattle.ep_pool.proofs.Reading.{same_number}
use Rattle.ep_pool.specs.Searching.{is_before}
use Rattle.ep_pool.proofs.from_json.nearer.Goals as goal

pub returns-in-Some-least-clause-passed : goal.returns-in-Some-least-clause-passed
returns-in-Some-least-clause-passed c k beyond small before = (
  ap (is_before k) c.in-Some-least.is ∙ before,
  λ is. (let same = same_number c.args.key.now c.in-Some.n k c.in-Some.ensures.some.0 small c.in-Some.ensures.some.1 is in grind (arith, same, before, c.if-m-n.true)),
)

pub returns-in_default-least-clause-passed : goal.returns-in_default-least-clause-passed
returns-in_default-least-clause-passed c k beyond small before = (
  ap (is_before k) c.in-Some-least.is ∙ grind (arith, before, c.if-m-n.false),
  λ is. (let same = same_number c.args.key.now c.in-Some.n k c.in-Some.ensures.some.0 small c.in-Some.ensures.some.1 is in grind (arith, same, before)),
)

pub returns-in_default-least-2-clause-passed : goal.returns-in_default-least-2-clause-passed
returns-in_default-least-2-clause-passed c k beyond small before = (
  ap (is_before k) c.in_default-least.is,
  λ is. (let same = same_number c.args.key.now c.in-Some.n k c.in-Some.ensures.some.0 small c.in-Some.ensures.some.1 is in grind (arith, same, before)),
)

pub returns-in_default-clause-passed : goal.returns-in_default-clause-passed
returns-in_default-clause-passed c k beyond small before = (
  before,
  λ is. (let same = same_number c.args.key.now c.in-Some.n k c.in-Some.ensures.some.0 small c.in-Some.ensures.some.1 is in omega (arith, same, beyond, c.if-next-n.false)),
)
