use Rattle.std.proofs.Common.{◌≡◌, drop}
use Rattle.std.specs.FinMap.Entries.{find}
use Rattle.ep_units.specs.Text.{text_cmp}
use Rattle.ep_attr.specs.Attrs.{pairs_of}
use Rattle.ep_attr.proofs.attr_map.find.Given as goal

abbrev pub invariant-loop-pair : goal.invariant-loop-pair
invariant-loop-pair l = find text_cmp l.key (pairs_of (drop l.pair-index l.pairs)) ≡ find text_cmp l.key (pairs_of l.pairs)
