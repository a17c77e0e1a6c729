-- Appends on a disk that stops.
use Rattle.std.specs.Prelude.{◌≡◌, ℕ, ◌-◌, ◌==◌, nat_le, Bool, true, false, ◌&&◌, ◌||◌, List, [], ◌∷◌, ◌++◌, if◌then◌else◌, Option, Some}
use Rattle.ep_outside.specs.Crash.{filling, IsAsked}
use Rattle.ep_outside.specs.Disk.{Contents}
use Rattle.ep_outside.specs.declared.image.Image.{Image}
use Rattle.ep_outside.specs.declared.image.Image.TheVariants.{Old, New, Torn}
use Rattle.ep_history.specs.Machine.{file_bytes}
use Rattle.ep_history.specs.declared.record.Record.{Record}
use Rattle.ep_pad_file.specs.Standing.{size, StandsFor}

-- the place of the gate behind these records
abbrev pub gate_behind : List Record → ℕ
gate_behind rs = file_bytes size rs - 1

-- the byte 01, written at the gate and not synced, is in the image that is asked for
abbrev pub opens_gate : ℕ → Image → Bool
opens_gate gate Old = false
opens_gate gate New = true
opens_gate gate (Torn length fill) = filling fill.items gate == 1

-- The image that is asked for has the record of an append that was stopped after so many device calls: after its frame and
-- their sync the third writes the byte 01 at the gate, and the fourth syncs it.
abbrev pub is_kept : ℕ → ℕ → Image → Bool
is_kept gate calls asked = nat_le 4 calls || (calls == 3 && opens_gate gate asked)

-- So it is: whichever image of this disk is asked for, it stands for the records and this one, or for the records alone.
abbrev pub IsStopped : Option Contents → List Record → Record → ℕ → Type 0
IsStopped told rs r calls = (asked : Image) (c : Contents) (image : List ℕ) → told ≡ Some c → IsAsked c asked image
    → StandsFor (if is_kept (gate_behind rs) calls asked then rs ++ r ∷ [] else rs) image
