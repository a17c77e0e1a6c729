-- Worked rows, computed from the definitions.
use Rattle.std.proofs.Common.{◌≡◌, ℕ, true, false, [], ◌∷◌, length, replicate, Some, None, refl}
use Rattle.std.specs.Prelude.{codes}
use Rattle.ep_units.specs.Text.{Text}
use Rattle.ep_units.specs.declared.session.Session.{Session}
use Rattle.ep_units.specs.declared.grant.Grant.{Grant}
use Rattle.ep_outside.specs.declared.limits.Limits.{Limits}
use Rattle.ep_cs.specs.Doc.{text_of}
use Rattle.ep_cs.specs.Splice.{splice}
use Rattle.ep_cs.specs.Plain.{plain}
use Rattle.ep_cs.specs.Change.{Change, stamped}
use Rattle.ep_history.specs.History.{by_nobody, first_rev, head_doc, rev_by}
use Rattle.ep_history.specs.Pad.{PadState, newest}
use Rattle.ep_history.specs.Readings.{fetch}
use Rattle.ep_history.specs.Records.{told}
use Rattle.ep_history.specs.Entries.{Outcome, outcome}
use Rattle.ep_history.specs.Entries.Entry.{Login, Resume, Accept, Fetch, Leave, Create, SetText, Delete, SetPublic, ReadText, ReadHistory, ReadStatus}
use Rattle.ep_history.specs.Entries.Outcome.{Refuses, Answers, Records}
use Rattle.ep_history.specs.Machine.{MachineState, Size, journal_fault, reopening}
use Rattle.ep_history.specs.declared.pad_bad.PadBad.TheVariants.{BadRev, Dead, Denied, Exists, Full, Gone, JournalFull, NoRev, TooLong}
use Rattle.ep_history.specs.declared.record.Record.TheVariants as record_of
use Rattle.ep_history.specs.declared.nop.Nop.{Nop}
use Rattle.ep_history.specs.declared.rev.Rev.{Rev}
use Rattle.ep_history.specs.declared.seat.Why.TheVariants.{Left, Reopened}

abbrev limits : Limits
limits = record { live = 1; logins = 1000; units = 3; journal = 20; openings = 2; pads = 1 }

abbrev absent : PadState
absent = told limits (record_of.Open 1 ∷ [])

-- at head 0, without sessions
abbrev made : PadState
made = told limits (record_of.Open 1 ∷ record_of.Create 1 5 (codes "ab") ∷ [])

abbrev grant : Text → Grant
grant author = record { pad = codes "p"; asked = codes "p"; author = author; token_author = author; member = false; read_only = false }

abbrev A : Text
A = codes "a.a"

abbrev B : Text
B = codes "a.b"

abbrev then_pad : PadState → Outcome → PadState
then_pad pad (Refuses bad) = pad
then_pad pad (Answers answer next) = next
then_pad pad (Records r answer next) = next

-- A has entered
abbrev entered : PadState
entered = then_pad made (outcome made (Login (grant A) 6))

abbrev first : Session
first = record { epoch = 1; count = 1 }

abbrev insert : Change
insert = stamped (splice 3 0 0 (plain (codes "x"))) (text_of (head_doc (newest made)))

-- ---- a pad at head 0

fetched_past : outcome entered (Fetch first 5 0) ≡ Refuses (BadRev 0)
fetched_past = refl

text_past : outcome entered (ReadText (Some 1)) ≡ Refuses (NoRev 0)
text_past = refl

history_past : outcome entered (ReadHistory first 1 10) ≡ Refuses (NoRev 0)
history_past = refl

resumed_past : outcome entered (Resume (grant A) 1 None None 7) ≡ Refuses (BadRev 0)
resumed_past = refl

created_twice : outcome entered (Create (codes "c") 7) ≡ Refuses Exists
created_twice = refl

other_author : outcome entered (Resume (grant A) 0 None (Some B) 7) ≡ Refuses (Denied 7)
other_author = refl

-- ---- after leaving

abbrev left : PadState
left = then_pad entered (outcome entered (Leave first))

accepted_dead : outcome left (Accept first 0 insert 8) ≡ Refuses (Dead Left)
accepted_dead = refl

left_twice : outcome left (Leave first) ≡ Refuses (Dead Left)
left_twice = refl

-- ---- without a pad

set_absent : outcome absent (SetText (codes "c") 7) ≡ Refuses Gone
set_absent = refl

deleted_absent : outcome absent (Delete 7) ≡ Refuses Gone
deleted_absent = refl

public_absent : outcome absent (SetPublic true) ≡ Refuses Gone
public_absent = refl

status_absent : outcome absent ReadStatus ≡ Refuses Gone
status_absent = refl

text_absent : outcome absent (ReadText None) ≡ Refuses Gone
text_absent = refl

-- ---- limits: 3 units, 1 live session, 20 bytes of a journal, and 2 more for openings

too_long : outcome entered (Accept first 0 insert 8) ≡ Refuses (TooLong 4)
too_long = refl

full : outcome entered (Login (grant B) 8) ≡ Refuses (Full 1)
full = refl

-- an opening has 9 bytes
abbrev size : Size
size r = 9

abbrev new : MachineState
new = record { records = []; pad = told limits []; is_open = false; pending = []; faults = 0 }

journal_full : journal_fault size new (record_of.Open 1) ≡ Some (JournalFull 23)
journal_full = refl

-- where each has 7 bytes, of which an opening and a deletion still have room
abbrev shorter : Size
shorter r = 7

openings_have_room : (journal_fault shorter new (record_of.Open 1) ≡ None) × (journal_fault shorter new (record_of.Delete 5) ≡ None)
openings_have_room = (refl, refl)

text_has_none : journal_fault shorter new (record_of.Create 1 5 (codes "ab")) ≡ Some (JournalFull 21)
text_has_none = refl

-- ---- fetching at head 250

abbrev rev : Rev
rev = rev_by (by_nobody 7) (splice 3 0 0 []) (head_doc (newest made))

abbrev nop_at : Session → ℕ → Nop
nop_at s r = record { session = s; time = 7; rev = r }

abbrev long : PadState
long = record entered {
  births = record { first = first_rev 5 (codes "ab"); later = replicate 250 rev; nops = nop_at first 3 ∷ nop_at (record { epoch = 1; count = 2 }) 4 ∷ nop_at first 64 ∷ nop_at first 65 ∷ [] } ∷ [];
}

from_start : length (fetch long first 0 0).revs ≡ 64
from_start = refl

from_186 : length (fetch long first 186 0).revs ≡ 64
from_186 = refl

from_187 : length (fetch long first 187 0).revs ≡ 63
from_187 = refl

-- the heads of its own Nops as far as the revisions given, behind those that were told
nops_told : (fetch long first 0 0).nops ≡ 3 ∷ 64 ∷ []
nops_told = refl

nops_behind : (fetch long first 0 1).nops ≡ 64 ∷ []
nops_behind = refl

-- ---- after another opening

abbrev shut : MachineState
shut = record { records = []; pad = entered; is_open = false; pending = []; faults = 1 }

-- a session of the older opening, and one of the new opening that was not made
opened_anew : outcome (reopening shut).pad (Leave first) ≡ Refuses (Dead (Reopened 2))
opened_anew = refl

not_made : outcome (reopening shut).pad (Leave (record { epoch = 2; count = 1 })) ≡ Refuses (Dead (Reopened 2))
not_made = refl
