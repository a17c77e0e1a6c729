-- An entry in which a machine was stopped.
use Rattle.std.specs.Prelude.{◌≡◌, ◌⊎◌, ℕ, Bool, if◌then◌else◌, Result, Err}
use Rattle.ep_history.specs.Entries.{Entry, Reply}
use Rattle.ep_history.specs.Machine.{MachineState, IsStep, turn}
use Rattle.ep_history.specs.declared.pad_bad.PadBad.{PadBad}
use Rattle.ep_history.specs.declared.pad_bad.PadBad.TheVariants.{JournalFull, NoMemory}
use Rattle.ep_pad_file.specs.Standing.{size}
use Rattle.ep_pad.specs.Opening.{stopped, IsFullThen, IsWoken, Sleeps}

-- An open machine was stopped in an entry to which it made this reply, and is in this state. Nothing was done where memory
-- was wanting, or where the record isn't kept; else all was.
pub record StopsIn (st : MachineState) (e : Entry) (reply : Reply) (kept : Bool) (at : MachineState) : Type 0 where
  pub lacks : reply ≡ Err NoMemory → at ≡ stopped st
  pub does : (reply ≡ Err NoMemory → ⊥) → at ≡ stopped (if kept then (turn size st e).state else st)

-- It is not open again: it didn't open before the entry, or not behind it, where the record of the entry may be pending.
pub data StaysStopped (st : MachineState) (e : Entry) (bad : PadBad) (new : MachineState) : Type 0 where
  Before : Sleeps st bad new → StaysStopped st e bad new
  Behind : (mid next : MachineState) (reply : Reply) → IsWoken st mid → IsStep size mid e reply next → Sleeps (stopped next) bad new → StaysStopped st e bad new

-- It is not open, as the journal has no room for the record of its opening: of the one before the entry, or of the one behind
-- it. Then the entry was done, where this says so of the state in which the machine was, or else not.
pub data HasNoRoom (st : MachineState) (e : Entry) (kept : MachineState → Bool) (bad : PadBad) (new : MachineState) : Type 0 where
  FullBefore : Sleeps st bad new → HasNoRoom st e kept bad new
  FullBehind : (mid : MachineState) → IsWoken st mid → IsFullThen (stopped (if kept mid then (turn size mid e).state else mid)) bad new → HasNoRoom st e kept bad new

-- What is told of an opening that was refused behind an entry: why; but that memory was wanting, where it was for the entry
-- and the journal has no room for the opening. So a journal without room is told only where the entry was answered.
pub record IsToldBehind {A : Type 0} (taken : Result A PadBad) (bad said : PadBad) : Type 0 where
  pub same : (said ≡ bad) ⊎ ((bytes : ℕ) × (bad ≡ JournalFull bytes) × (taken ≡ Err NoMemory) × (said ≡ NoMemory))
  pub full : (bytes : ℕ) → said ≡ JournalFull bytes → taken ≡ Err NoMemory → ⊥
