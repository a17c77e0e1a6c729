use Rattle.std.proofs.Common.{◌≡◌, drop}
use Rattle.std.specs.List.{flat_map}
use Rattle.ep_csread.specs.Reading.{first_such, is_big, op_numbers}
use Rattle.ep_csread.specs.Views.{op_views}
use Rattle.ep_csread.proofs.checks.first_big_of.Given as goal

abbrev pub invariant-loop-op : goal.invariant-loop-op
invariant-loop-op l = first_such is_big (flat_map op_numbers (op_views (drop l.op-index l.ops))) ≡ first_such is_big (flat_map op_numbers (op_views l.ops))
