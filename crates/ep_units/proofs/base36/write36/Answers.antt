use Rattle.std.proofs.Common.{◌++◌, arith, ap, ◌∙◌, length-set}
use Rattle.std.proofs.lemmas.Result.{IfOk-equal}
use Rattle.ep_units.specs.Base36.{write36}
use Rattle.ep_units.proofs.Digits.{has_room, one_digit_less, digit_before, last_digit}
use Rattle.ep_units.proofs.base36.write36.Goals as goal

pub loop-rest-preserved : goal.loop-rest-preserved
loop-rest-preserved c =
    let kept = c.loop-rest.invariant in
    let room = has_room c.loop-rest.rest c.loop-rest.at c.loop-rest-test.true kept.2 in (
      omega arith,
      length-set c.loop-rest.digits c.loop-rest.at c.digit.result ∙ kept.1,
      one_digit_less c.loop-rest.rest c.loop-rest.at kept.2 room,
      digit_before c.loop-rest.rest c.loop-rest.at c.digit.result c.loop-rest.digits _ c.loop-rest-test.true room (omega arith) c.digit.ensures kept.3,
    )

pub returns-clause-ok : goal.returns-clause-ok
returns-clause-ok c =
    let kept = c.loop-rest.invariant in
    let spelled = last_digit c.loop-rest.rest c.loop-rest.at c.digit-2.result 13 c.loop-rest.digits (write36 c.args.n) c.loop-rest-test.false (omega arith) kept.1 c.digit-2.ensures kept.3 in
    IfOk-equal c.push_all.result _ _ _ c.push_all.ensures.ok (ap (λ ds. c.args.out.now ++ ds) spelled)
