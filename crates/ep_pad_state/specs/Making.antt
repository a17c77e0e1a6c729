-- What a change that was made ready makes of a pad.
use Rattle.std.specs.Prelude.{◌≡◌, ◌+◌, ◌<◌, ◌≤◌, ◌^◌, true, false, List, [], ◌∷◌, ◌++◌, length}
use Rattle.ep_units.specs.Text.{Text}
use Rattle.ep_history.specs.declared.record.Record.{Record}
use Rattle.ep_history.specs.declared.record.Record.TheVariants as record_of
use Rattle.ep_history.specs.declared.rev.Rev.{Rev}
use Rattle.ep_history.specs.declared.nop.Nop.{Nop}
use Rattle.ep_history.specs.History.{Birth, lacks_newline, made}
use Rattle.ep_history.specs.Pad.{PadState, no_birth, with_revs, with_nops, with_session, delete, set_public, reopened}
use Rattle.ep_history.specs.Records.{IsSoundPad}
use Rattle.ep_revs.specs.Revisions.{last_doc}
use Rattle.ep_seats.specs.Kept.{StandsFor, HasNext}
use Rattle.ep_step.specs.declared.revised.Revised.{Revised}
use Rattle.ep_step.specs.Revised.{revs_of, AreNewRevs}
use Rattle.ep_pad_state.specs.declared.birth.Birth.{Birth as Kept}
use Rattle.ep_pad_state.specs.declared.change.PadChange.{PadChange}
use Rattle.ep_pad_state.specs.declared.change.PadChange.TheVariants as made_by
use Rattle.ep_pad_state.specs.declared.change.Ready.{Ready}
use Rattle.ep_pad_state.specs.declared.pad.Last.{Last}
use Rattle.ep_pad_state.specs.declared.pad.Last.TheVariants.{There, Gone}
use Rattle.ep_pad_state.specs.declared.pad.Pad.{Pad}
use Rattle.ep_pad_state.specs.Nops.{HasRoom, StandFor}
use Rattle.ep_pad_state.specs.Held.{IsPad}

-- a birth of these revisions, revision 0 first
abbrev pub birth_of : List Rev → Birth
birth_of [] = no_birth
birth_of (v ∷ vs) = record { first = v; later = vs; nops = [] }

-- a pad with one birth more, which is there and not public
abbrev pub with_birth : PadState → List Rev → PadState
with_birth p vs = record p { births = p.births ++ birth_of vs ∷ []; present = true; public = false }

-- whom a record names as the author, where it names one, and else this one
abbrev pub author_in : Record → Text → Text
author_in (record_of.Rev session time author fixed change) else_this = author
author_in (record_of.Open epoch) else_this = else_this
author_in (record_of.Create birth time text) else_this = else_this
author_in (record_of.Delete time) else_this = else_this
author_in (record_of.Public on) else_this = else_this
author_in (record_of.Nop session time) else_this = else_this

-- the revisions of a step, where this author made the edit
abbrev pub by_author : Text → Revised → Revised
by_author author r = record { edit = record { rev = record r.edit.rev { author = author }; doc = r.edit.doc }; newline = r.newline }

-- a change whose author its record keeps, with that author
abbrev pub filled : PadChange → Record → PadChange
filled (made_by.Revisions r) entry = made_by.Revisions (by_author (author_in entry r.edit.rev.author) r)
filled (made_by.Nop x) entry = made_by.Nop x
filled (made_by.Birth k) entry = made_by.Birth k
filled (made_by.FirstLogin k author read_only) entry = made_by.FirstLogin k author read_only
filled made_by.Deletion entry = made_by.Deletion
filled (made_by.Public on) entry = made_by.Public on
filled (made_by.Opening seats) entry = made_by.Opening seats

-- what the pad becomes once a call that was made ready is recorded
abbrev pub change_of : {A : Type 0} → Ready A → PadChange
change_of x = filled x.change x.record

-- the pad after a change
abbrev pub after : PadChange → PadState → PadState
after (made_by.Revisions r) p = with_revs p (revs_of r)
after (made_by.Nop x) p = with_nops p (x ∷ [])
after (made_by.Birth k) p = with_birth p k.revs.revs
after (made_by.FirstLogin k author read_only) p = with_session (with_birth p k.revs.revs) author read_only
after made_by.Deletion p = delete p
after (made_by.Public on) p = set_public p on
after (made_by.Opening seats) p = reopened p

-- ---- what a change asks of the pad that makes it

-- the revisions were made to the head, which ends in a newline after them, and there is room for them
pub record CanGrow (k : Kept) (r : Revised) : Type 0 where
  pub follow : AreNewRevs r (last_doc k.revs.revs)
  pub ends : lacks_newline (made (last_doc k.revs.revs) (revs_of r)) ≡ false
  pub room : length (revs_of r) ≤ k.revs.room

-- the last birth is there, and there is room
abbrev pub TakesRevs : Last → Revised → Type 0
TakesRevs (There k) r = CanGrow k r
TakesRevs (Gone h) r = ⊥

-- the same for an edit that became nothing: the room is its session's
abbrev pub TakesNop : Last → Nop → Type 0
TakesNop (There k) x = HasRoom x.session k.nops
TakesNop (Gone h) x = ⊥

-- births are counted in 64 bits, and a new one has no edits that became nothing
pub record TakesBirth (pad : Pad) (k : Kept) : Type 0 where
  pub count : pad.births + 1 < 2 ^ 64
  pub nops : StandFor k.nops []

-- somebody may enter without memory
pub record TakesSession (pad : Pad) : Type 0 where
  pub room : 0 < pad.seats.room
  pub next : HasNext pad.seats

abbrev pub Takes : Pad → PadChange → Type 0
Takes pad (made_by.Revisions r) = TakesRevs pad.last r
Takes pad (made_by.Nop x) = TakesNop pad.last x
Takes pad (made_by.Birth k) = TakesBirth pad k
Takes pad (made_by.FirstLogin k author read_only) = TakesBirth pad k × TakesSession pad
Takes pad made_by.Deletion = Unit {0}
Takes pad (made_by.Public on) = Unit {0}
Takes pad (made_by.Opening seats) = (p : PadState) → IsPad pad p → StandsFor seats (reopened p)

-- a change was made ready for a pad: it can be made without memory, and leaves each pad sound
pub record IsReady (pad : Pad) (c : PadChange) : Type 0 where
  pub takes : Takes pad c
  pub sound : (p : PadState) → IsPad pad p → IsSoundPad (after c p)
