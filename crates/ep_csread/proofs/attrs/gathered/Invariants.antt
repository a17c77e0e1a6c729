use Rattle.std.proofs.Common.{◌≡◌, drop, None}
use Rattle.ep_attr.specs.AttrMap.{none, of_pairs}
use Rattle.ep_attr.specs.Attrs.{pairs_of}
use Rattle.ep_csread.specs.Reading.{first_such, is_big, map_from, values}
use Rattle.ep_csread.proofs.attrs.gathered.Given as goal

abbrev pub invariant-loop-star : goal.invariant-loop-star
invariant-loop-star l = record {
  so_far : map_from l.pool.pairs (of_pairs (pairs_of l.attrs.items)) (values (drop l.star-index l.stars)) ≡ map_from l.pool.pairs none (values l.stars);
  small : first_such is_big (drop l.star-index l.stars) ≡ None;
}
