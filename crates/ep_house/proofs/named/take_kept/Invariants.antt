use Rattle.std.proofs.Common.{◌≡◌, length, ◌-◌}
use Rattle.ep_house.specs.Named.{wait_of}
use Rattle.ep_house.proofs.Finding.{Looked}
use Rattle.ep_house.proofs.named.take_kept.Given as goal

abbrev pub invariant-loop-at : goal.invariant-loop-at
invariant-loop-at g l = (l.kept ≡ l.initial.kept) × Looked wait_of l.at l.kept.items l.name

abbrev pub decreases-loop-at : goal.decreases-loop-at
decreases-loop-at g l = length l.kept.items - l.at
