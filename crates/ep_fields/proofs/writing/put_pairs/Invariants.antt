use Rattle.std.proofs.Common.{◌≡◌, ◌++◌, take}
use Rattle.std.specs.List.{AllByRecursion, flat_map}
use Rattle.ep_fields.specs.Bytes.{pair, IsPair}
use Rattle.ep_fields.proofs.writing.put_pairs.Given as goal

abbrev pub invariant-loop-n : goal.invariant-loop-n
invariant-loop-n l =
    (l.out.items ≡ l.fn.out.items ++ flat_map pair (take l.n l.pairs.pairs)) × AllByRecursion IsPair (take l.n l.pairs.pairs)
