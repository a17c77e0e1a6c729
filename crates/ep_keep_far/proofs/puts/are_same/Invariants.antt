use Rattle.std.proofs.Common.{◌≡◌, take}
use Rattle.ep_keep_far.proofs.puts.are_same.Given as goal

abbrev pub invariant-loop-put : goal.invariant-loop-put
invariant-loop-put l = (l.at ≡ l.put-index) × (take l.put-index l.some ≡ take l.put-index l.others)
