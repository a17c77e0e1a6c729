use Rattle.std.proofs.Common.{◌≡◌, true, take}
use Rattle.std.specs.List.{list_all}
use Rattle.ep_attr.specs.Attrs.{pairs_of}
use Rattle.ep_pool.specs.Pool.{has}
use Rattle.ep_csread.proofs.printing.has_all.Given as goal

abbrev pub invariant-loop-attr : goal.invariant-loop-attr
invariant-loop-attr l = list_all (has l.pool.pairs) (pairs_of (take l.attr-index l.attrs)) ≡ true
