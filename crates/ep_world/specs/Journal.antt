-- What an event adds to the pad's journal, whether that has room, and of a crash within a take whether its record is kept.
use Rattle.std.specs.Prelude.{◌≡◌, ℕ, Bool, true, false, ◌&&◌, nat_lt, is_none, if◌then◌else◌, List, [], ◌∷◌, ◌++◌, Option, Some, None}
use Rattle.ep_units.specs.declared.session.Session.{Session}
use Rattle.ep_cs.specs.EditFits.{is_edit}
use Rattle.ep_outside.specs.declared.image.Image.{Image}
use Rattle.ep_history.specs.Entries.{Outcome, outcome}
use Rattle.ep_history.specs.Entries.Entry.{Login, Create, SetText, Delete}
use Rattle.ep_history.specs.Entries.Outcome.{Refuses, Answers, Records}
use Rattle.ep_history.specs.Machine.{MachineState, journal_fault}
use Rattle.ep_history.specs.Pad.{PadState}
use Rattle.ep_history.specs.Records.{accept_record, told as told_pad}
use Rattle.ep_history.specs.declared.pad_bad.PadBad.{PadBad}
use Rattle.ep_history.specs.declared.record.Record.{Record}
use Rattle.ep_history.specs.declared.record.Record.TheVariants as record_of
use Rattle.ep_schedule.specs.Headline.{next_up}
use Rattle.ep_schedule.specs.World.{Message, Reason, WorldState, grant_of, reason}
use Rattle.ep_pad.specs.Standing.{opening}
use Rattle.ep_pad_file.specs.Standing.{size}
use Rattle.ep_pad_file.specs.Stopping.{gate_behind, is_kept}
use Rattle.ep_event.specs.declared.event.Event.{Event as Told}
use Rattle.ep_event.specs.declared.event.Event.TheVariants as told
use Rattle.ep_event.specs.declared.event.StopAt.{StopAt}
use Rattle.ep_event.specs.declared.shown.Shown.{Shown}
use Rattle.ep_event.specs.declared.shown.Verb.{Verb}
use Rattle.ep_event.specs.declared.shown.Verb.TheVariants as verb
use Rattle.ep_world.specs.Events.{of_client}
use Rattle.ep_world.specs.Shows.{late_up, pad_refuses, visit_verb}

-- the journal of a pad that isn't made yet has its opening
abbrev pub begun : List Record
begun = record_of.Open 1 ∷ []

-- a record comes behind these, where there is one
abbrev pub behind : List Record → Option Record → List Record
behind rs None = rs
behind rs (Some r) = rs ++ r ∷ []

-- ---- what is recorded

-- by what comes of an entry
abbrev pub record_in : Outcome → Option Record
record_in (Refuses b) = None
record_in (Answers a next) = None
record_in (Records r a next) = Some r

-- of a session's message, unless it is refused
abbrev pub record_if : PadState → Session → ℕ → Message → Option Reason → Option Record
record_if pad s now msg None = Some (accept_record pad s now msg.base msg.change)
record_if pad s now msg (Some why) = None

-- of the message that is taken, where there is one
abbrev pub record_taken : PadState → ℕ → Option (Session × Message) → Option Record
record_taken pad now None = None
record_taken pad now (Some x) = record_if pad x.0 now x.1 (reason pad x.0 x.1)

-- by an event
abbrev pub record_at : WorldState → ℕ → Told → Option Record
record_at w now (told.Create text) = record_in (outcome w.pad (Create text now))
record_at w now (told.SetText text) = record_in (outcome w.pad (SetText text now))
record_at w now told.Delete = record_in (outcome w.pad (Delete now))
record_at w now (told.Login n) = record_in (outcome w.pad (Login (grant_of w n false) now))
record_at w now (told.Guest n read_only) = record_in (outcome w.pad (Login (grant_of w n read_only) now))
record_at w now (told.Take n) = record_taken w.pad now (next_up (w.actors n))
record_at w now (told.Late n) = record_taken w.pad now (of_client None (λ m. late_up m.earlier) (w.actors n))
record_at w now e = None

-- the record of a take that was broken off, where it is kept
abbrev pub kept_record : Bool → Option Record → Option Record
kept_record true o = o
kept_record false o = None

-- what a crash leaves of the journal
abbrev pub journal_left : List Record → WorldState → ℕ → Bool → Option StopAt → List Record
journal_left rs w now kept None = rs
journal_left rs w now kept (Some at) = behind rs (kept_record kept (record_taken w.pad now (next_up (w.actors at.name))))

-- the journal behind an event. A crash is followed by an opening.
abbrev pub journal_after : List Record → WorldState → ℕ → Bool → Told → List Record
journal_after rs w now kept (told.Stop at) = journal_left rs w now kept at ++ opening w.pad ∷ []
journal_after rs w now kept e = behind rs (record_at w now e)

-- ---- whether there is room

-- a machine with these records
abbrev pub machine_of : List Record → PadState → MachineState
machine_of rs pad = record { records = rs; pad = pad; is_open = true; pending = []; faults = 0 }

-- why a pad's journal doesn't take a record, where there is one, if it doesn't
abbrev pub full_by : List Record → PadState → Option Record → Option PadBad
full_by rs pad None = None
full_by rs pad (Some r) = journal_fault size (machine_of rs pad) r

-- why the journal has no room for an opening behind these records, if it hasn't
abbrev pub unopened : List Record → PadState → Option PadBad
unopened rs pad = full_by rs pad (Some (opening pad))

-- The pad is shut: the journal had no room for the opening behind a crash, so that the records tell of an older one. Whatever
-- is asked of the pad, its opening is tried again.
abbrev pub is_shut : List Record → PadState → Bool
is_shut rs pad = nat_lt (told_pad pad.limits rs).epoch pad.epoch

-- why the journal keeps no record, where there is one, or has no room for the opening before it, if it is so
abbrev pub full_in : List Record → PadState → Option Record → Option PadBad
full_in rs pad o = if is_shut rs pad then unopened rs pad else full_by rs pad o

-- a message is brought to the pad where its text spells a change
abbrev pub is_brought : Option (Session × Message) → Bool
is_brought None = false
is_brought (Some x) = is_edit x.1.change.edit

-- so for a take
abbrev pub full_take : List Record → PadState → ℕ → Option (Session × Message) → Option PadBad
full_take rs pad now x = if is_brought x then full_in rs pad (record_taken pad now x) else None

-- so for an event. A client is sent nothing by a pad that is shut, and nothing is late there: nobody is connected since the crash.
abbrev pub full_for : List Record → WorldState → ℕ → Bool → Told → Option PadBad
full_for rs w now kept (told.Create text) = full_in rs w.pad (record_at w now (told.Create text))
full_for rs w now kept (told.SetText text) = full_in rs w.pad (record_at w now (told.SetText text))
full_for rs w now kept told.Delete = full_in rs w.pad (record_at w now told.Delete)
full_for rs w now kept (told.Login n) = full_in rs w.pad (record_at w now (told.Login n))
full_for rs w now kept (told.Guest n read_only) = full_in rs w.pad (record_at w now (told.Guest n read_only))
full_for rs w now kept (told.Resume n) = full_in rs w.pad None
full_for rs w now kept (told.Take n) = full_take rs w.pad now (next_up (w.actors n))
full_for rs w now kept (told.Stop at) = unopened (journal_left rs w now kept at) w.pad
full_for rs w now kept e = None

-- what the journal's limit refuses, and what is shown of it
abbrev pub no_room : Told → PadBad → Option Shown
no_room (told.Create text) b = Some (pad_refuses verb.Create None b)
no_room (told.SetText text) b = Some (pad_refuses verb.Set None b)
no_room told.Delete b = Some (pad_refuses verb.Drop None b)
no_room (told.Login n) b = Some (pad_refuses verb.Login (Some n) b)
no_room (told.Guest n read_only) b = Some (pad_refuses (visit_verb read_only) (Some n) b)
no_room (told.Resume n) b = Some (pad_refuses verb.Resume (Some n) b)
no_room (told.Take n) b = Some (pad_refuses verb.Take (Some n) b)
no_room (told.Stop None) b = Some (pad_refuses verb.Crash None b)
no_room (told.Stop (Some at)) b = Some (pad_refuses verb.Crash (Some at.name) b)
no_room e b = None

-- what is shown of an event for which there is no room
abbrev pub shows_full : Told → Option PadBad → Option Shown
shows_full e None = None
shows_full e (Some b) = no_room e b

abbrev pub full_at : List Record → WorldState → ℕ → Bool → Told → Option Shown
full_at rs w now kept e = shows_full e (full_for rs w now kept e)

-- the journal behind an event for which there is no room
abbrev pub journal_full : List Record → WorldState → ℕ → Bool → Told → List Record
journal_full rs w now kept (told.Stop at) = journal_left rs w now kept at
journal_full rs w now kept e = rs

-- what a reading of the pad shows: this, or where the pad is shut that its opening is refused
abbrev pub reads_if : Verb → Shown → Option PadBad → Shown
reads_if v said None = said
reads_if v said (Some b) = pad_refuses v None b

abbrev pub reads_as : List Record → PadState → Verb → Shown → Shown
reads_as rs pad v said = reads_if v said (full_in rs pad None)

-- ---- a crash

-- The disk keeps the record of a take that makes so many device calls, in the image that is asked for; where the journal has
-- room for it.
abbrev pub keeps_record : List Record → PadState → ℕ → Option (Session × Message) → ℕ → Image → Bool
keeps_record rs pad now x calls asked = is_kept (gate_behind rs) calls asked && is_none (full_by rs pad (record_taken pad now x))

-- so it is decided of a take that a crash comes into
abbrev pub Decides : List Record → WorldState → ℕ → Told → Bool → Type 0
Decides rs w now (told.Stop (Some at)) kept = kept ≡ keeps_record rs w.pad now (next_up (w.actors at.name)) at.calls at.image
Decides rs w now e kept = Unit {0}
