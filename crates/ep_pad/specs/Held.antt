-- What a machine holds, as contracts see it.
use Rattle.std.specs.Prelude.{ℕ, ◌+◌, Bool}
use Rattle.ep_outside.specs.declared.limits.Limits.{Limits}
use Rattle.ep_pad_file.specs.PadFile.{saturated}
use Rattle.ep_pad_state.specs.declared.pad.Pad.{Pad}

-- the disk of its file, its limits, the pad in memory, and whether it is open
pub record Held (D : Type 0) : Type 0 where
  pub disk : D
  pub limits : Limits
  pub pad : Pad
  pub is_open : Bool

-- how long a file may be under these limits, whatever record is last
abbrev pub longest_of : Limits → ℕ
longest_of limits = saturated (limits.journal + limits.openings)
