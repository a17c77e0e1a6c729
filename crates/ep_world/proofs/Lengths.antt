-- What has no room in the journal is refused with a length.
use Rattle.std.proofs.Common.{◌≡◌, ℕ, Bool, true, false, if◌then◌else◌, List, Option, Some, None}
use Rattle.ep_units.specs.declared.session.Session.{Session}
use Rattle.ep_history.specs.Pad.{PadState}
use Rattle.ep_history.specs.declared.pad_bad.PadBad.{PadBad}
use Rattle.ep_history.specs.declared.pad_bad.PadBad.TheVariants.{JournalFull}
use Rattle.ep_history.specs.declared.record.Record.{Record}
use Rattle.ep_history.proofs.Lists.{none_some}
use Rattle.ep_pad.specs.Standing.{opening}
use Rattle.ep_schedule.specs.Headline.{next_up}
use Rattle.ep_schedule.specs.World.{Message, WorldState}
use Rattle.ep_event.specs.declared.event.Event.{Event}
use Rattle.ep_event.specs.declared.event.Event.TheVariants.{Create, SetText, Delete, Login, Guest, Edit, Submit, Inject, Take, Late, Push, Hear, Lose, Resume, Stop, Undo, Redo}
use Rattle.ep_world.specs.Journal.{full_by, full_for, full_in, full_take, is_brought, is_shut, journal_left, machine_of, record_at, record_taken, unopened}
use Rattle.ep_world.proofs.Calls.{journal-full}

by-bytes : (rs : List Record) (pad : PadState) (o : Option Record) (b : PadBad) → full_by rs pad o ≡ Some b → (bytes : ℕ) × (b ≡ JournalFull bytes)
by-bytes rs pad None b h = none_some h
by-bytes rs pad (Some r) b h = journal-full (machine_of rs pad) r b h

in-bytes : (rs : List Record) (pad : PadState) (o : Option Record) (b : PadBad) → full_in rs pad o ≡ Some b → (bytes : ℕ) × (b ≡ JournalFull bytes)
in-bytes rs pad o b h = go (is_shut rs pad) h
  where
    go : (t : Bool) → (if t then unopened rs pad else full_by rs pad o) ≡ Some b → (bytes : ℕ) × (b ≡ JournalFull bytes)
    go true h = by-bytes rs pad (Some (opening pad)) b h
    go false h = by-bytes rs pad o b h

take-bytes : (rs : List Record) (pad : PadState) (now : ℕ) (x : Option (Session × Message)) (b : PadBad) → full_take rs pad now x ≡ Some b → (bytes : ℕ) × (b ≡ JournalFull bytes)
take-bytes rs pad now x b h = go (is_brought x) h
  where
    go : (t : Bool) → (if t then full_in rs pad (record_taken pad now x) else None) ≡ Some b → (bytes : ℕ) × (b ≡ JournalFull bytes)
    go true h = in-bytes rs pad (record_taken pad now x) b h
    go false h = none_some h

pub full_bytes : (rs : List Record) (w : WorldState) (now : ℕ) (kept : Bool) (e : Event) (b : PadBad) → full_for rs w now kept e ≡ Some b → (bytes : ℕ) × (b ≡ JournalFull bytes)
full_bytes rs w now kept (Create text) b h = in-bytes rs w.pad (record_at w now (Create text)) b h
full_bytes rs w now kept (SetText text) b h = in-bytes rs w.pad (record_at w now (SetText text)) b h
full_bytes rs w now kept Delete b h = in-bytes rs w.pad (record_at w now Delete) b h
full_bytes rs w now kept (Login n) b h = in-bytes rs w.pad (record_at w now (Login n)) b h
full_bytes rs w now kept (Guest n read_only) b h = in-bytes rs w.pad (record_at w now (Guest n read_only)) b h
full_bytes rs w now kept (Edit n e) b h = none_some h
full_bytes rs w now kept (Undo n) b h = none_some h
full_bytes rs w now kept (Redo n) b h = none_some h
full_bytes rs w now kept (Submit n) b h = none_some h
full_bytes rs w now kept (Inject n base change) b h = none_some h
full_bytes rs w now kept (Take n) b h = take-bytes rs w.pad now (next_up (w.actors n)) b h
full_bytes rs w now kept (Late n) b h = none_some h
full_bytes rs w now kept (Push n) b h = none_some h
full_bytes rs w now kept (Hear n) b h = none_some h
full_bytes rs w now kept (Lose n) b h = none_some h
full_bytes rs w now kept (Resume n) b h = in-bytes rs w.pad None b h
full_bytes rs w now kept (Stop at) b h = by-bytes (journal_left rs w now kept at) w.pad (Some (opening w.pad)) b h
