use Rattle.std.proofs.Common.{◌≡◌, drop, take, None}
use Rattle.std.specs.List.{flat_map}
use Rattle.ep_csread.specs.Reading.{all_resolved, first_such, is_big, op_numbers}
use Rattle.ep_csread.specs.Views.{op_views}
use Rattle.ep_csread.proofs.attrs.resolved.Given as goal

abbrev pub invariant-loop-i : goal.invariant-loop-i
invariant-loop-i l = record {
  so_far : l.made.items ≡ all_resolved l.pool.pairs (op_views (take l.i l.ops));
  small : first_such is_big (flat_map op_numbers (op_views (drop l.i l.ops))) ≡ None;
}
