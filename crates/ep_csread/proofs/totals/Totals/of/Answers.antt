use Rattle.std.proofs.Common.{arith}
use Rattle.std.proofs.lemmas.List.{at_drop_all}
use Rattle.ep_cs.specs.Runs.{all_inserted, all_passed}
use Rattle.ep_csread.specs.Reading.{all_dropped}
use Rattle.ep_csread.proofs.totals.Totals.of.Goals as goal

pub returns-clause-passed : goal.returns-clause-passed
returns-clause-passed c = let e = at_drop_all all_passed c.args.ops.now c.loop-op.op-index (omega arith) in omega (arith, c.loop-op.invariant.fits)

pub returns-clause-dropped : goal.returns-clause-dropped
returns-clause-dropped c = let e = at_drop_all all_dropped c.args.ops.now c.loop-op.op-index (omega arith) in omega (arith, c.loop-op.invariant.fits)

pub returns-clause-inserted : goal.returns-clause-inserted
returns-clause-inserted c = let e = at_drop_all all_inserted c.args.ops.now c.loop-op.op-index (omega arith) in omega (arith, c.loop-op.invariant.fits)
