-- Calls of a pad by a pass.
use Rattle.std.specs.Prelude.{◌≡◌, ◌⊎◌, List, Result, Err}
use Rattle.ep_cell.specs.History.{pairs}
use Rattle.ep_cell.specs.Passes.{Known, Makes}
use Rattle.ep_history.specs.declared.pad_bad.PadBad.{PadBad}
use Rattle.ep_history.specs.declared.pad_bad.PadBad.TheVariants.{NoMemory}
use Rattle.ep_pad.specs.declared.entries.PadEntry.{PadEntry}
use Rattle.ep_pad.specs.declared.entries.PadReply.{PadReply}

module _ (Legal : List (PadEntry × PadReply) → Type 0) where
  -- a call was made, and the history that ends with it is legal
  pub record Asks (v : Known PadEntry PadReply) (e : PadEntry) (r : PadReply) (w : Known PadEntry PadReply) : Type 0 where
    pub makes : Makes v e r w
    pub legal : Legal (pairs w.seen)

  -- or memory ran out before it, and nothing changed
  abbrev pub AsksOrLacks : {A : Type 0} → Known PadEntry PadReply → PadEntry → (Result A PadBad → PadReply) → Result A PadBad → Known PadEntry PadReply → Type 0
  AsksOrLacks v e kind r w = Asks v e (kind r) w ⊎ ((r ≡ Err NoMemory) × (w ≡ v))
