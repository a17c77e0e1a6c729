use Rattle.std.proofs.Common.{◌≡◌, drop}
use Rattle.ep_outside.specs.Kept.{after}
use Rattle.ep_keep.proofs.pairs.put_pairs.Given as goal

abbrev pub invariant-loop-put : goal.invariant-loop-put
invariant-loop-put l = after l.fn.pairs.items l.puts ≡ after l.pairs.items (drop l.put-index l.puts)
