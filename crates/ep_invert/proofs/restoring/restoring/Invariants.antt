use Rattle.std.proofs.Common.{◌≡◌, ◌++◌, drop}
use Rattle.ep_attr.specs.Attrs.{pairs_of}
use Rattle.ep_invert.specs.Restored.{pairs_back}
use Rattle.ep_invert.proofs.restoring.restoring.Given as goal

abbrev pub invariant-loop-pair : goal.invariant-loop-pair
invariant-loop-pair l = pairs_of l.made.items ++ pairs_back l.attrs (pairs_of (drop l.pair-index l.pair-items)) ≡ pairs_back l.attrs (pairs_of l.pair-items)
