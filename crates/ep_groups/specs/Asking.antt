-- Calls of the directory by a pass.
use Rattle.std.specs.Prelude.{◌≡◌, ◌⊎◌, List, Result, Err}
use Rattle.ep_cell.specs.History.{pairs}
use Rattle.ep_cell.specs.Passes.{Known, Makes}
use Rattle.ep_dir_records.specs.declared.dir_bad.DirBad.{DirBad}
use Rattle.ep_dir_records.specs.declared.dir_bad.DirBad.TheVariants.{NoMemory}
use Rattle.ep_groups.specs.declared.entries.DirEntry.{DirEntry}
use Rattle.ep_groups.specs.declared.entries.DirReply.{DirReply}

module _ (Legal : List (DirEntry × DirReply) → Type 0) where
  -- a call was made, and the history that ends with it is legal
  pub record Asks (v : Known DirEntry DirReply) (e : DirEntry) (r : DirReply) (w : Known DirEntry DirReply) : Type 0 where
    pub makes : Makes v e r w
    pub legal : Legal (pairs w.seen)

  -- or memory ran out before it, and nothing changed
  abbrev pub AsksOrLacks : {A : Type 0} → Known DirEntry DirReply → DirEntry → (Result A DirBad → DirReply) → Result A DirBad → Known DirEntry DirReply → Type 0
  AsksOrLacks v e kind r w = Asks v e (kind r) w ⊎ ((r ≡ Err NoMemory) × (w ≡ v))
