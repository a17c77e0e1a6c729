-- Which lists of records are legal, and the pad that a list tells.
use Rattle.std.specs.Prelude.{◌≡◌, ℕ, suc, ◌≤◌, Bool, true, false, not, ◌&&◌, nat_lt, if◌then◌else◌, List, [], ◌∷◌, length, Some}
use Rattle.ep_units.specs.Text.{Text, is_well_formed}
use Rattle.ep_units.specs.Clean.{clean}
use Rattle.ep_outside.specs.declared.limits.Limits.{Limits}
use Rattle.ep_cs.specs.Doc.{text_of}
use Rattle.ep_cs.specs.Edit.{Edit, apply}
use Rattle.ep_cs.specs.Change.{stamped}
use Rattle.ep_cs.specs.Fits.{Fits, is_identity}
use Rattle.ep_cs.specs.EditFits.{is_edit, fits}
use Rattle.ep_history.specs.Lists.{at}
use Rattle.ep_history.specs.History.{By, nop_by, by_nobody, Birth, head, first_doc, doc_at, head_doc, lacks_newline, step_revs}
use Rattle.ep_history.specs.Pad.{PadState, newest, birth_at, live_count, create, delete, set_public, reopened, with_revs, with_nops}
use Rattle.ep_history.specs.Accept.{at_head, by_session}
use Rattle.ep_history.specs.Server.{set_head}
use Rattle.ep_history.specs.declared.rev.Rev.{Rev}
use Rattle.ep_history.specs.declared.record.Record.{Record}
use Rattle.ep_history.specs.declared.record.Record.TheVariants as record_of
use Rattle.ep_units.specs.declared.session.Session.{Session}
use Rattle.ep_cs.specs.Change.{Change}

-- ---- legal lists

-- before the first record
abbrev pub unopened : Limits → PadState
unopened limits = record { limits = limits; epoch = 0; sessions = []; births = []; present = false; public = false }

-- a pad that was opened and isn't there
abbrev pub is_absent : PadState → Bool
is_absent pad = nat_lt 0 pad.epoch && not pad.present

-- a record may come next: openings and births have the next number, what happens to a pad happens while it is there, a
-- first text is cleaned already, and a change fits the head; `fixed` says that its result lacks the final newline
abbrev pub IsNext : PadState → Record → Type 0
IsNext pad (record_of.Open epoch) = epoch ≡ suc pad.epoch
IsNext pad (record_of.Create birth time text) =
    (is_absent pad ≡ true) × (birth ≡ suc (length pad.births)) × (is_well_formed text ≡ true) × (clean text ≡ text)
IsNext pad (record_of.Rev session time author fixed change) =
    let doc = head_doc (newest pad) in
    (pad.present ≡ true) × Fits change doc × (is_edit change.edit ≡ true) × (fixed ≡ lacks_newline (apply change.edit doc))
IsNext pad (record_of.Delete time) = pad.present ≡ true
IsNext pad (record_of.Public on) = pad.present ≡ true
IsNext pad (record_of.Nop session time) = pad.present ≡ true

-- the pad after a record
abbrev pub next_pad : PadState → Record → PadState
next_pad pad (record_of.Open epoch) = reopened pad
next_pad pad (record_of.Create birth time text) = create pad time text
next_pad pad (record_of.Rev session time author fixed change) =
    with_revs pad (step_revs (record { author = author; session = session; time = time }) change.edit (head_doc (newest pad)))
next_pad pad (record_of.Delete time) = delete pad
next_pad pad (record_of.Public on) = set_public pad on
next_pad pad (record_of.Nop session time) =
    with_nops pad (nop_by (record { author = []; session = session; time = time }) (head (newest pad)) ∷ [])

-- the pad after a list of them
abbrev pub told_from : PadState → List Record → PadState
told_from pad [] = pad
told_from pad (r ∷ rs) = told_from (next_pad pad r) rs

-- the pad that a list tells: as it stands right after an opening, without sessions
abbrev pub told : Limits → List Record → PadState
told limits rs = told_from (unopened limits) rs

-- each record may come behind those before it
abbrev pub AreNext : PadState → List Record → Type 0
AreNext pad [] = Unit {0}
AreNext pad (r ∷ rs) = IsNext pad r × AreNext (next_pad pad r) rs

-- a legal list
abbrev pub AreLegal : Limits → List Record → Type 0
AreLegal limits rs = AreNext (unopened limits) rs

-- a pad apart from its sessions, of which no record tells
abbrev pub without_sessions : PadState → PadState
without_sessions pad = record pad { sessions = [] }

-- ---- what each call records

-- an edit of the head makes a revision
abbrev pub rev_record : PadState → By → Edit → Record
rev_record pad by e =
    let doc = head_doc (newest pad) in
    record_of.Rev by.session by.time by.author (lacks_newline (apply e doc)) (stamped e (text_of doc))

-- an edit of the head that a session makes: one that alters nothing makes a Nop
abbrev pub edit_record : PadState → By → Edit → Record
edit_record pad by e = if is_identity e then record_of.Nop by.session by.time else rev_record pad by e

-- a session's edit of a base
abbrev pub accept_record : PadState → Session → ℕ → ℕ → Change → Record
accept_record pad s now base c = edit_record pad (by_session pad s now) (at_head pad base c.edit)

-- a birth
abbrev pub create_record : PadState → ℕ → Text → Record
create_record pad now text = record_of.Create (suc (length pad.births)) now (clean text)

-- the server's text
abbrev pub set_record : PadState → ℕ → Text → Record
set_record pad now text = rev_record pad (by_nobody now) (set_head pad text)

-- ---- sound pads

-- a birth whose first text is a text and ends in a newline, whose later changes each fit the document before them and
-- say its newlines, and whose head ends in a newline
pub record IsSoundBirth (b : Birth) : Type 0 where
  pub text : is_well_formed (text_of (first_doc b)) ≡ true
  pub line : lacks_newline (first_doc b) ≡ false
  pub fit : (i : ℕ) (v : Rev) → at b.later i ≡ Some v → fits v.change.edit (doc_at b i) ≡ true
  pub stamp : (i : ℕ) (v : Rev) → at b.later i ≡ Some v → v.change ≡ stamped v.change.edit (text_of (doc_at b i))
  pub ends : lacks_newline (head_doc b) ≡ false

-- a pad whose births are sound, one of which is there where it is present; no session is live where it isn't
pub record IsSoundPad (pad : PadState) : Type 0 where
  pub births : (k : ℕ) → IsSoundBirth (birth_at pad k)
  pub present : pad.present ≡ true → 1 ≤ length pad.births
  pub absent : pad.present ≡ false → live_count pad.sessions ≡ 0

-- records are a legal list that tells a pad apart from its sessions; the pad is sound, and was opened
pub record IsKept (rs : List Record) (pad : PadState) : Type 0 where
  pub legal : AreLegal pad.limits rs
  pub told : without_sessions pad ≡ told pad.limits rs
  pub sound : IsSoundPad pad
  pub opened : 1 ≤ pad.epoch
