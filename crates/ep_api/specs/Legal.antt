-- Passes of the ports, whose histories are legal.
use Rattle.std.specs.Prelude.{ℕ, ◌≡◌, Bool, List, Option}
use Rattle.ep_outside.specs.Disk.{Contents}
use Rattle.ep_outside.specs.declared.limits.Limits.{Limits}
use Rattle.ep_cell.specs.History.{pairs}
use Rattle.ep_cell.specs.Passes.{Known}
use Rattle.ep_dir_records.specs.Answers.{Seen}
use Rattle.ep_groups.specs.declared.entries.DirEntry.{DirEntry}
use Rattle.ep_groups.specs.declared.entries.DirReply.{DirReply}
use Rattle.ep_groups.specs.History.{IsLegal}
use Rattle.ep_pad.specs.declared.entries.PadEntry.{PadEntry}
use Rattle.ep_pad.specs.declared.entries.PadReply.{PadReply}
use Rattle.ep_pad.specs.declared.wanted.Wanted.{Wanted}
use Rattle.ep_pad.specs.Halls.{Answer}
use Rattle.ep_pad.specs.Lazy.{IsLegalFrom, Lazy}

-- a pass of the directory
pub record Sits {Pass K : Type 0} (is_of : Pass → Type 0) (tells : K → Bool) (begun : Seen) (known : Pass → Known DirEntry DirReply) (pass : Pass) : Type 0 where
  pub of : is_of pass
  pub legal : IsLegal tells begun (pairs (known pass).seen)

-- a hall of the pads
pub record Waits {Hall : Type 0} (is_hall : Hall → Type 0) (is_register : List (Wanted × Answer) → Type 0) (known : Hall → Known Wanted Answer) (hall : Hall) : Type 0 where
  pub of : is_hall hall
  pub legal : is_register (pairs (known hall).seen)

-- a pass of a pad, which is held to these limits
pub record Stands {Pass D : Type 0} (is_of : Pass → Type 0) (limits : Limits) (told : D → Option Contents) (failures : D → ℕ) (begun : Pass → Lazy D) (known : Pass → Known PadEntry PadReply) (pass : Pass) : Type 0 where
  pub of : is_of pass
  pub held : (begun pass).limits ≡ limits
  pub legal : IsLegalFrom told failures (begun pass) (pairs (known pass).seen)
