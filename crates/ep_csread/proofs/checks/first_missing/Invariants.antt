use Rattle.std.proofs.Common.{◌≡◌, drop}
use Rattle.ep_csread.specs.Reading.{first_such, is_missing, all_stars}
use Rattle.ep_csread.specs.Views.{op_views}
use Rattle.ep_csread.proofs.checks.first_missing.Given as goal

abbrev pub invariant-loop-op : goal.invariant-loop-op
invariant-loop-op l = first_such (is_missing l.count) (all_stars (op_views (drop l.op-index l.ops))) ≡ first_such (is_missing l.count) (all_stars (op_views l.ops))
