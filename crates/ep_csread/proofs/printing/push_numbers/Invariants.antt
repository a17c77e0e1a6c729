use Rattle.std.proofs.Common.{◌≡◌, ◌++◌, map, take}
use Rattle.ep_attr.specs.Attrs.{pairs_of}
use Rattle.ep_pool.specs.Pool.{number_of}
use Rattle.ep_csread.proofs.printing.push_numbers.Given as goal

abbrev pub invariant-loop-attr : goal.invariant-loop-attr
invariant-loop-attr l = l.numbers.items ≡ l.initial.numbers.items ++ map (number_of l.pool.pairs) (pairs_of (take l.attr-index l.attrs))
