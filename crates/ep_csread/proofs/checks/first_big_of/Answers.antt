use Rattle.ep_csread.specs.Reading.{is_big, op_numbers}
use Rattle.ep_csread.proofs.First.{walk_found, walk_on}
use Rattle.ep_csread.proofs.checks.first_big_of.Goals as goal

pub returns-in-Some : goal.returns-in-Some
returns-in-Some c = walk_found is_big op_numbers c.args.ops.now c.loop-op.op-index c.op-item.result c.in-Some.number _ c.loop-op-test.true c.op-item.is c.loop-op.invariant c.in-Some.ensures

pub loop-op-preserved : goal.loop-op-preserved
loop-op-preserved c = walk_on is_big op_numbers c.args.ops.now c.loop-op.op-index c.op-item.result _ c.loop-op-test.true c.op-item.is c.loop-op.invariant c.in-None.ensures
