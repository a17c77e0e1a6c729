-- What taking a message comes to.
use Rattle.std.specs.Prelude.{◌≡◌, ◌⊎◌, ℕ, Bool, true, false, if◌then◌else◌, List, [], ◌∷◌, ◌++◌, Option, Some, None, Result, Ok, Err}
use Rattle.ep_units.specs.declared.session.Session.{Session}
use Rattle.ep_outside.specs.Disk.{Contents}
use Rattle.ep_history.specs.Accept.{at_head, committed}
use Rattle.ep_history.specs.Pad.{PadState, leave, seat_of}
use Rattle.ep_history.specs.Readings.{commit}
use Rattle.ep_history.specs.Records.{accept_record}
use Rattle.ep_history.specs.declared.pad_bad.PadBad.{PadBad}
use Rattle.ep_history.specs.declared.pad_bad.PadBad.TheVariants as bad
use Rattle.ep_history.specs.declared.seat.Why.TheVariants as end
use Rattle.ep_schedule.specs.World.{Name, Message, Reason as AReason, reason}
use Rattle.ep_pad.specs.Held.{Held}
use Rattle.ep_step.specs.Telling.{told_by}
use Rattle.ep_step.specs.declared.telling.Committed.{Committed as Told}
use Rattle.ep_event.specs.declared.shown.Ended.{Ended}
use Rattle.ep_event.specs.declared.shown.Ended.TheVariants as ended
use Rattle.ep_event.specs.declared.shown.Reason.{Reason}
use Rattle.ep_event.specs.declared.shown.Reason.TheVariants as why
use Rattle.ep_event.specs.declared.shown.Shown.{Shown}
use Rattle.ep_event.specs.declared.shown.Shown.TheVariants as shown
use Rattle.ep_event.specs.declared.shown.Verb.{Verb}
use Rattle.ep_event.specs.declared.shown.Verb.TheVariants as verb
use Rattle.ep_world.specs.declared.bad.WorldBad.{WorldBad}
use Rattle.ep_world.specs.declared.bad.WorldBad.TheVariants as world_bad
use Rattle.ep_world.specs.declared.taking.Took.{Took}
use Rattle.ep_world.specs.declared.taking.Took.TheVariants as took
use Rattle.ep_cs.specs.EditFits.{is_edit}
use Rattle.ep_world.specs.Journal.{full_by, full_in, is_shut, unopened}
use Rattle.ep_world.specs.Shows.{reason_of, shows_made}
use Rattle.ep_world.specs.Standing.{IsAt}
use Rattle.ep_history.specs.declared.record.Record.{Record}

-- the word with which a refusal closes
abbrev pub closing_word : Reason → Ended
closing_word (why.Pad (bad.Dead (end.Deleted birth))) = ended.Deleted
closing_word (why.Pad (bad.Dead (end.Replaced by))) = ended.UserDup
closing_word (why.Pad bad.Gone) = ended.Deleted
closing_word x = ended.BadChangeset

-- the word of the closing that comes of it
abbrev pub closing_of : Took → Option Ended
closing_of (took.Made c) = None
closing_of (took.Refused x) = Some (closing_word x)
closing_of (took.NoRoom n) = Some ended.Full
closing_of (took.Shut n) = Some ended.BadChangeset

-- what is shown of it
abbrev pub shows_took : Verb → Name → Took → Shown
shows_took v n (took.Made c) = shows_made v n (told_by c)
shows_took v n (took.Refused x) = shown.Refused v (Some n) x
shows_took v n (took.NoRoom b) = shown.Refused v (Some n) (why.Pad (bad.JournalFull b))
shows_took v n (took.Shut b) = shown.Refused v (Some n) (why.Pad (bad.JournalFull b))

-- by the rules a late message is refused before the journal is asked
abbrev pub shows_late : Name → Took → Result Shown WorldBad
shows_late n (took.Made c) = Ok (shows_made verb.Late n (told_by c))
shows_late n (took.Refused x) = Ok (shown.Refused verb.Late (Some n) x)
shows_late n (took.NoRoom b) = Err world_bad.NoMemory
shows_late n (took.Shut b) = Err world_bad.NoMemory

-- what a refusal by the pad comes to
abbrev pub not_made : PadBad → Result Took WorldBad
not_made (bad.Store n) = Err (world_bad.Store n)
not_made bad.NoMemory = Err world_bad.NoMemory
not_made (bad.JournalFull n) = Ok (took.NoRoom n)
not_made b = Ok (took.Refused (why.Pad b))

module _ {D : Type 0} (told_by_disk : D → Option Contents) (failures : D → ℕ) (stops_alone : D → Bool) (alone : Bool) (rs : List Record) where
  -- a session's message is committed, and its record kept; the pad in which it is
  abbrev pub Commits : PadState → Session → Message → ℕ → Held D → Told → Type 0
  Commits pad s msg now new c =
      (reason pad s msg ≡ None) × (told_by c ≡ commit pad (at_head pad msg.base msg.change.edit))
      × IsAt told_by_disk failures stops_alone alone (rs ++ accept_record pad s now msg.base msg.change ∷ []) new (committed pad s now msg.base msg.change)
      × (full_in rs pad (Some (accept_record pad s now msg.base msg.change)) ≡ None)

  -- the journal has no room for the record of what nothing else refuses; what the machine is at then
  abbrev pub IsFull : PadState → Session → Message → ℕ → Held D → ℕ → PadState → Type 0
  IsFull pad s msg now new bytes next =
      (reason pad s msg ≡ None) × IsAt told_by_disk failures stops_alone alone rs new next
      × (is_shut rs pad ≡ false) × (full_by rs pad (Some (accept_record pad s now msg.base msg.change)) ≡ Some (bad.JournalFull bytes))

  -- it has none for the opening before that; the session is of an older opening
  abbrev pub IsShut : PadState → Session → Message → Held D → ℕ → Type 0
  IsShut pad s msg new bytes =
      (is_edit msg.change.edit ≡ true) × (seat_of pad s ≡ None) × IsAt told_by_disk failures stops_alone alone rs new pad
      × (is_shut rs pad ≡ true) × (unopened rs pad ≡ Some (bad.JournalFull bytes))

  -- it is refused for its reason, and what the machine is at then
  abbrev pub IsRefused : PadState → Session → Message → Held D → Reason → PadState → Type 0
  IsRefused pad s msg new x next =
      (r : AReason) × (reason pad s msg ≡ Some r) × (x ≡ reason_of r) × IsAt told_by_disk failures stops_alone alone rs new next
      × ((if is_edit msg.change.edit then full_in rs pad None else None) ≡ None)

  -- it is committed, or refused for its reason; or the journal has no room
  abbrev pub Brings : PadState → Session → Message → ℕ → Held D → Took → Type 0
  Brings pad s msg now new (took.Made c) = Commits pad s msg now new c
  Brings pad s msg now new (took.Refused x) = IsRefused pad s msg new x pad
  Brings pad s msg now new (took.NoRoom b) = IsFull pad s msg now new b pad ⊎ IsShut pad s msg new b
  Brings pad s msg now new (took.Shut b) = ⊥

  -- the same, where a session whose message isn't taken is left
  abbrev pub Settles : PadState → Session → Message → ℕ → Held D → Took → Type 0
  Settles pad s msg now new (took.Made c) = Commits pad s msg now new c
  Settles pad s msg now new (took.Refused x) = IsRefused pad s msg new x (leave pad s)
  Settles pad s msg now new (took.NoRoom b) = IsFull pad s msg now new b (leave pad s)
  Settles pad s msg now new (took.Shut b) = IsShut pad s msg new b
