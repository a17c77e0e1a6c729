-- Why a file tells no pad.
use Rattle.std.specs.Prelude.{◌≡◌, ℕ, true, false, List}
use Rattle.ep_journal.specs.File.{is_foreign}
use Rattle.ep_pad.specs.Opening.{IsBadAt}
use Rattle.ep_verify.specs.Verdicts.{no_limits}
use Rattle.ep_move.specs.declared.told.Untold.{Untold}
use Rattle.ep_move.specs.declared.told.Untold.TheVariants as untold

-- it is no journal, or its record of this index is the first that is none, or can't come there
abbrev pub IsUntold : List ℕ → Untold → Type 0
IsUntold file untold.Foreign = is_foreign file ≡ true
IsUntold file (untold.Record k) = (is_foreign file ≡ false) × IsBadAt no_limits file k
IsUntold file untold.NoMemory = Unit {0}
