use Rattle.std.proofs.Common.{◌≡◌, ℕ, ◌<◌, ◌≤◌, length, get_or}
use Rattle.std.specs.Option.{option_map}
use Rattle.ep_members.specs.declared.actors.Slot.{Slot}
use Rattle.ep_members.specs.Actors.{kept_cut_off}
use Rattle.ep_members.proofs.actors.Actors.cut_off.Given as goal

-- how many there are, which have been cut off, and which have not
abbrev pub invariant-loop-place : goal.invariant-loop-place
invariant-loop-place l =
    (length l.self-inside.slots.items ≡ length l.fn.self)
    × ((k : ℕ) (d : Slot) → k < l.place → get_or l.self-inside.slots.items k d ≡ record (get_or l.fn.self k d) { actor = option_map kept_cut_off (get_or l.fn.self k d).actor })
    × ((k : ℕ) (d : Slot) → l.place ≤ k → get_or l.self-inside.slots.items k d ≡ get_or l.fn.self k d)
