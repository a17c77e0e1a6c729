-- What a schedule in code comes to.
use Rattle.std.specs.Prelude.{◌≡◌, ℕ, Bool, true, false, List, Option, Result, IfOk}
use Rattle.ep_outside.specs.Disk.{Contents}
use Rattle.ep_outside.specs.Outside.{Takes, TakesPart}
use Rattle.ep_world.specs.Kepts.{Kepts}
use Rattle.ep_schedule.specs.World.{WorldState}
use Rattle.ep_event.specs.declared.event.Event.{Event}
use Rattle.ep_event.specs.declared.event.Event.TheVariants.{Redo, Stop, Undo}
use Rattle.ep_event.specs.declared.shown.Shown.{Shown}
use Rattle.ep_event.specs.declared.shown.Shown.TheVariants.{Refused}
use Rattle.ep_event.specs.declared.shown.Reason.TheVariants as why
use Rattle.ep_history.specs.declared.pad_bad.PadBad.TheVariants as bad
use Rattle.ep_history.specs.declared.record.Record.{Record}
use Rattle.ep_world.specs.Leading.{IsScheduled}
use Rattle.ep_world.specs.Standing.{IsRun, StandsFor}
use Rattle.ep_world.specs.declared.world.World.{World}
use Rattle.ep_make.specs.Lines.{five_lines}
use Rattle.ep_make.specs.Round.{after, does}
use Rattle.ep_make.specs.Schedule.{Makes}
use Rattle.ep_make.specs.declared.bad.Stopped.{Stopped}

-- ---- what is written

-- the five lines of the world that the schedule makes were written; and of that world the schedule theorem speaks
pub record IsMade (number clients edits : ℕ) (held now : Option (List ℕ)) : Type 0 where
  pub end : WorldState
  pub kepts : Kepts
  pub makes : Makes number clients edits end
  pub written : Takes held now (five_lines clients edits end)
  pub scheduled : IsScheduled end kepts

-- a beginning of them was written
abbrev pub BeginsLines : ℕ → ℕ → ℕ → Option (List ℕ) → Option (List ℕ) → Type 0
BeginsLines number clients edits held now = (end : WorldState) × Makes number clients edits end × TakesPart held now (five_lines clients edits end)

-- ---- the world in code

-- what no schedule has
abbrev pub is_unscheduled : Event → Bool
is_unscheduled (Undo n) = true
is_unscheduled (Redo n) = true
is_unscheduled (Stop at) = true
is_unscheduled e = false

-- that the journal had no room is shown
abbrev pub is_overfull : Shown → Bool
is_overfull (Refused verb name (why.Pad (bad.JournalFull bytes))) = true
is_overfull shown = false

module _ {D : Type 0} (told_by : D → Option Contents) (failures : D → ℕ) (stops_alone : D → Bool) where
  -- the world in code stands for this one of the rules, to which some events lead
  pub record IsOf (world : World D) (w : WorldState) : Type 0 where
    pub kepts : Kepts
    pub alone : Bool
    pub journal : List Record
    pub run : IsRun w kepts
    pub stands : StandsFor told_by failures stops_alone alone journal world w kepts

  -- from each world for which it stood it came to the one behind the event; and the answer is whether that found something to do
  abbrev pub Plays : Event → World D → Result Bool Stopped → World D → Type 0
  Plays e old result new = (w : WorldState) → IsOf old w → IfOk result (λ done. (done ≡ does w e) × IsOf new (after w e))

  -- from each world for which it stood it came to what the step makes of that
  abbrev pub Moves : (WorldState → WorldState) → World D → World D → Type 0
  Moves step old new = (w : WorldState) → IsOf old w → IsOf new (step w)

  -- from each world for which it stood it came to one to which the step leads
  abbrev pub Leads : (WorldState → WorldState → Type 0) → World D → World D → Type 0
  Leads Step old new = (w : WorldState) → IsOf old w → (v : WorldState) × Step w v × IsOf new v
