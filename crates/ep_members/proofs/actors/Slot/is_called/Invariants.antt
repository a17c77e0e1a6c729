use Rattle.std.proofs.Common.{◌≡◌, ℕ, ◌<◌, ◌≤◌, length, slice_index_or}
use Rattle.ep_members.proofs.actors.Slot.is_called.Given as goal

-- from there on they are the same
abbrev pub invariant-units : goal.invariant-units
invariant-units l = (l.left ≤ length l.own) × ((k : ℕ) → l.left ≤ k → k < length l.own → slice_index_or l.own k 0 ≡ slice_index_or l.sought k 0)

abbrev pub decreases-units : goal.decreases-units
decreases-units l = l.left
