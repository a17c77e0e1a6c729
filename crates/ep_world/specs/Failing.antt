-- What ends a world.
use Rattle.std.specs.Prelude.{ℕ, Option, Result, Ok, Err}
use Rattle.ep_history.specs.declared.pad_bad.PadBad.{PadBad}
use Rattle.ep_history.specs.declared.pad_bad.PadBad.TheVariants as bad
use Rattle.ep_schedule.specs.World.{Name}
use Rattle.ep_pad.specs.Opening.{HasRisenTo}
use Rattle.ep_event.specs.declared.shown.Reason.TheVariants as why
use Rattle.ep_event.specs.declared.shown.Shown.{Shown}
use Rattle.ep_event.specs.declared.shown.Shown.TheVariants as shown
use Rattle.ep_event.specs.declared.shown.Verb.{Verb}
use Rattle.ep_world.specs.declared.bad.WorldBad.{WorldBad}
use Rattle.ep_world.specs.declared.bad.WorldBad.TheVariants as world_bad

-- the store failed, or memory is wanting
abbrev pub failed : PadBad → WorldBad
failed (bad.Store n) = world_bad.Store n
failed b = world_bad.NoMemory

-- or the journal has no room for an opening
abbrev pub failed_opening : PadBad → WorldBad
failed_opening (bad.Store n) = world_bad.Store n
failed_opening (bad.JournalFull n) = world_bad.Full n
failed_opening b = world_bad.NoMemory

-- a refusal is shown, unless it ends the world
abbrev pub shown_or_failed : Verb → Option Name → PadBad → Result Shown WorldBad
shown_or_failed v n (bad.Store c) = Err (world_bad.Store c)
shown_or_failed v n bad.NoMemory = Err world_bad.NoMemory
shown_or_failed v n b = Ok (shown.Refused v n (why.Pad b))

-- after it nothing is said of the world
abbrev pub IsFailure : WorldBad → Type 0
IsFailure world_bad.Unknown = ⊥
IsFailure world_bad.NoText = ⊥
IsFailure (world_bad.Full n) = Unit {0}
IsFailure (world_bad.Store n) = Unit {0}
IsFailure world_bad.NoMemory = Unit {0}

-- Its cause, of a call that opens no machine: the store failed, and its count of faults rose to this; or memory is wanting.
abbrev pub IsCaused : ℕ → ℕ → WorldBad → Type 0
IsCaused before now (world_bad.Store n) = HasRisenTo before now n
IsCaused before now (world_bad.Full n) = ⊥
IsCaused before now b = Unit {0}
