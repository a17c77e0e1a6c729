use Rattle.std.proofs.Common.{arith}
use Rattle.ep_csread.proofs.Checked.{spread_lined, spread_no_empty, spread_inserts}
use Rattle.ep_csread.specs.Views.{op_views}
use Rattle.ep_csread.proofs.reader.counted_attribs.Goals as goal

pub whole-requires-clause-inside : goal.whole-requires-clause-inside
whole-requires-clause-inside c =
    let all = spread_inserts c.args.pool.now.pairs (op_views c.args.ops.now) c.args.text.now c.in_ok-ops.ops.items c.requires.inserts c.in_ok-ops.ensures in
    omega (arith, all.passed)

pub whole-requires-clause-lined : goal.whole-requires-clause-lined
whole-requires-clause-lined c = spread_lined c.args.pool.now.pairs (op_views c.args.ops.now) c.args.text.now c.in_ok-ops.ops.items c.in_ok-ops.ensures

pub whole-requires-clause-no_empty : goal.whole-requires-clause-no_empty
whole-requires-clause-no_empty c = spread_no_empty _ c.args.pool.now.pairs (op_views c.args.ops.now) c.in_ok-ops.ops.items c.in_ok-ops.ensures
