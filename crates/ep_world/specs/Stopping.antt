-- What a crash comes to.
use Rattle.std.specs.Prelude.{◌≡◌, ◌⊎◌, ℕ, Bool, true, false, List, [], ◌∷◌, ◌++◌, Option, Some, None, Result, Ok, Err}
use Rattle.ep_units.specs.declared.session.Session.{Session}
use Rattle.ep_outside.specs.Disk.{Contents}
use Rattle.ep_history.specs.Accept.{committed}
use Rattle.ep_history.specs.Machine.{MachineState, settled}
use Rattle.ep_history.specs.Pad.{PadState, reopened}
use Rattle.ep_schedule.specs.World.{Name, Message, Reason as AReason, reason}
use Rattle.ep_pad.specs.Held.{Held}
use Rattle.ep_outside.specs.declared.image.Image.{Image}
use Rattle.ep_pad.specs.Standing.{opening}
use Rattle.ep_members.specs.declared.actors.Actor.{Actor}
use Rattle.ep_members.specs.declared.actors.Slot.{Slot}
use Rattle.ep_world.specs.declared.bad.WorldBad.{WorldBad}
use Rattle.ep_world.specs.declared.bad.WorldBad.TheVariants as world_bad
use Rattle.ep_members.specs.declared.message.Sent.{Sent}
use Rattle.ep_world.specs.Actors.{IsSame}
use Rattle.ep_members.specs.Actors.{PutsActor, TakesFirst, found}
use Rattle.ep_world.specs.Conns.{sent_of}
use Rattle.ep_pad.specs.Opening.{HasRisenTo}
use Rattle.ep_history.specs.declared.pad_bad.PadBad.{PadBad}
use Rattle.ep_history.specs.declared.pad_bad.PadBad.TheVariants as bad
use Rattle.ep_event.specs.declared.shown.Shown.{Shown}
use Rattle.ep_event.specs.declared.shown.Verb.TheVariants as verb
use Rattle.ep_world.specs.Journal.{behind, full_in, kept_record, keeps_record, record_taken, unopened}
use Rattle.ep_world.specs.Shows.{pad_refuses, shows_opening}
use Rattle.ep_world.specs.Standing.{IsOpenAt, IsShutAt}
use Rattle.ep_history.specs.declared.record.Record.{Record}

-- ---- the first message

-- of whom a name stands for
abbrev pub FindsFirst : List Slot → Name → Result (Option (Session × Sent)) WorldBad → List Slot → Type 0
FindsFirst old n (Ok x) new =
    (a : Actor) × (b : Actor) × (found old n ≡ Some a) × TakesFirst a x b
    × PutsActor old n b new
FindsFirst old n (Err world_bad.Unknown) new = (found old n ≡ None) × IsSame old new
FindsFirst old n (Err b) new = b ≡ world_bad.NoMemory

-- ---- the pad

-- a pad after the take of a message that was broken off, whose record was kept or not
abbrev pub taken_if : PadState → Session → ℕ → Message → Option AReason → PadState
taken_if pad s now msg None = committed pad s now msg.base msg.change
taken_if pad s now msg (Some why) = pad

abbrev pub broken_off : PadState → Session → ℕ → Message → Bool → PadState
broken_off pad s now msg false = pad
broken_off pad s now msg true = taken_if pad s now msg (reason pad s msg)

-- the same of a take that has a message, or none
abbrev pub broken_by : PadState → ℕ → Option (Session × Message) → Bool → PadState
broken_by pad now None kept = pad
broken_by pad now (Some x) kept = broken_off pad x.0 now x.1 kept

-- the message of the rules as code has it, with its session
abbrev pub taken_of : Session × Message → Session × Sent
taken_of x = (x.0, sent_of x.1)

-- the pad's journal behind it
abbrev pub journal_broken : List Record → PadState → ℕ → Option (Session × Message) → Bool → List Record
journal_broken rs pad now x kept = behind rs (kept_record kept (record_taken pad now x))

-- a machine isn't opened again behind a take that was broken off: the store failed, of which nothing is said where the disk
-- fails otherwise than in a stop; or memory is wanting
abbrev pub BreaksNot : Bool → ℕ → ℕ → WorldBad → Type 0
BreaksNot alone before after (world_bad.Store n) = alone ≡ true → HasRisenTo before after n
BreaksNot alone before after (world_bad.Full n) = ⊥
BreaksNot alone before after b = Unit {0}

-- what is shown of an opening behind a crash, where the journal has room, or hasn't
abbrev pub shows_start_if : Option Name → PadState → Option PadBad → Shown
shows_start_if n pad None = shows_opening pad
shows_start_if n pad (Some b) = pad_refuses verb.Crash n b

module _ {D : Type 0} (told_by : D → Option Contents) (failures : D → ℕ) (stops_alone : D → Bool) (alone : Bool) where
  -- a pad with these records is started again: its opening is kept behind them; or they have no room for that, and it is shut
  abbrev pub Starts : List Record → PadState → Held D → Type 0
  Starts rs pad new =
      ((unopened rs pad ≡ None) × IsOpenAt told_by failures stops_alone alone (rs ++ opening pad ∷ []) new (reopened pad))
      ⊎ ((n : ℕ) × (unopened rs pad ≡ Some (bad.JournalFull n)) × IsShutAt told_by failures stops_alone alone rs new (reopened pad))

  -- a machine was started again; what a record that was pending came to, the disk decided
  abbrev pub Reopens : MachineState → Held D → Type 0
  Reopens st new = (kept : Bool) × Starts (settled kept st).records (settled kept st).pad new

  -- a take that was broken off, where there was a message, is settled as one whose record was kept, or as none; and the
  -- machine was started again. Of a disk that fails in a stop alone the image that was asked for decides.
  abbrev pub BreaksOff : List Record → PadState → ℕ → Option (Session × Message) → ℕ → Image → Held D → Type 0
  BreaksOff rs pad now first calls image new =
      (kept : Bool) × Starts (journal_broken rs pad now first kept) (broken_by pad now first kept) new
      × (alone ≡ true → kept ≡ keeps_record rs pad now first calls image)

-- what is shown of an opening behind a crash, of a name or none
abbrev pub shows_start : Option Name → List Record → PadState → Shown
shows_start n rs pad = shows_start_if n pad (full_in rs pad None)
