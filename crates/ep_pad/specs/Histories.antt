-- The histories of a pad's machine.
use Rattle.std.specs.Prelude.{◌≡◌, ℕ, List, All, map, Option, Some}
use Rattle.ep_outside.specs.Disk.{Contents}
use Rattle.ep_history.specs.Machine.{MachineState, Call, IsFirst, Runs}
use Rattle.ep_pad_file.specs.Standing.{size}
use Rattle.ep_pad.specs.Held.{Held}
use Rattle.ep_pad.specs.Standing.{Stands}
use Rattle.ep_pad.specs.Entries.{Suits, entry_of, reply_of}
use Rattle.ep_pad.specs.declared.entries.PadEntry.{PadEntry}
use Rattle.ep_pad.specs.declared.entries.PadReply.{PadReply}

-- the calls, as the rules say them
abbrev pub calls_of : List (PadEntry × PadReply) → List Call
calls_of h = map (λ c. record { entry = entry_of c.0; reply = reply_of c.1 }) h

-- the disk of a machine tells what it holds
abbrev pub HasTold : {D : Type 0} → (D → Option Contents) → Held D → Type 0
HasTold told_by m = (c : Contents) × (told_by m.disk ≡ Some c)

-- each reply is of its entry's kind
abbrev pub AllSuit : List (PadEntry × PadReply) → Type 0
AllSuit h = All (λ c. Suits c.0 c.1) h

-- a first state of the rules' machine for which a machine stood as it began: it has its limits, its disk's count of faults and the records that its disk told
pub record IsFirstOf {D : Type 0} (told_by : D → Option Contents) (failures : D → ℕ) (begun : Held D) (st : MachineState) : Type 0 where
  pub first : IsFirst st
  pub stands : Stands told_by failures begun st

-- the machine has made these calls since it began as the first, where the disk told then; and their replies suit in any case
abbrev pub HasMade : {D : Type 0} → (D → Option Contents) → (D → ℕ) → Held D → Held D → List (PadEntry × PadReply) → Type 0
HasMade told_by failures begun m h =
    (HasTold told_by begun → (first : MachineState) × (last : MachineState) × IsFirstOf told_by failures begun first × Runs size first (calls_of h) last × Stands told_by failures m last)
    × AllSuit h

-- of a machine that began so: where the disk told then, the calls are a legal run of the rules' machine from such a first state; and the replies suit in any case
abbrev pub IsLegalAfter : {D : Type 0} → (D → Option Contents) → (D → ℕ) → Held D → List (PadEntry × PadReply) → Type 0
IsLegalAfter told_by failures begun h =
    (HasTold told_by begun → (first : MachineState) × (last : MachineState) × IsFirstOf told_by failures begun first × Runs size first (calls_of h) last)
    × AllSuit h
