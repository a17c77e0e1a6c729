-- Working words of private contracts: what a change keeps.
use Rattle.std.specs.Prelude.{◌≡◌, ◌<◌, ◌^◌, []}
use Rattle.std.specs.Arc.{arc_value}
use Rattle.ep_cs.specs.Change.{Change, change_of}
use Rattle.ep_cs.specs.declared.change.Kept.{Kept}
use Rattle.ep_cs.specs.declared.change.Kept.TheVariants as kept

-- the change that is kept
abbrev pub kept_change : Kept → Change
kept_change (kept.Nothing units bank) = change_of units [] bank
kept_change (kept.Runs packed) = arc_value packed

-- where nothing is altered no units are kept
abbrev pub IsKept : Kept → Type 0
IsKept (kept.Nothing units bank) = (units < 2 ^ 32) × (bank ≡ [])
IsKept (kept.Runs packed) = Unit {0}
