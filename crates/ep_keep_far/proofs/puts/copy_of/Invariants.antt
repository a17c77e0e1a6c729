use Rattle.std.proofs.Common.{◌≡◌, take}
use Rattle.ep_keep_far.proofs.puts.copy_of.Given as goal

abbrev pub invariant-loop-put : goal.invariant-loop-put
invariant-loop-put l = l.copies.items ≡ take l.put-index l.puts
