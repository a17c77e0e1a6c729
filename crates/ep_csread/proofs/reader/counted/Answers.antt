use Rattle.ep_csread.proofs.Checked.{spread_lined, spread_no_empty}
use Rattle.ep_csread.specs.Views.{op_views}
use Rattle.ep_csread.proofs.reader.counted.Goals as goal

pub whole-requires-clause-lined : goal.whole-requires-clause-lined
whole-requires-clause-lined c = spread_lined c.args.pool.now.pairs (op_views c.deref.result.now) c.args.parts.bank.now c.in_ok-ops.ops.items c.in_ok-ops.ensures

pub whole-requires-clause-no_empty : goal.whole-requires-clause-no_empty
whole-requires-clause-no_empty c = spread_no_empty _ c.args.pool.now.pairs (op_views c.deref.result.now) c.in_ok-ops.ops.items c.in_ok-ops.ensures
