-- A pad: its births, and the sessions of this opening.
use Rattle.std.specs.Prelude.{◌≡◌, ℕ, zero, suc, ◌+◌, Bool, true, false, not, ◌==◌, ◌||◌, ◌&&◌, if◌then◌else◌, List, [], ◌∷◌, ◌++◌, map, length, Option, Some, None, is_some}
use Rattle.ep_units.specs.Text.{Text, text_eq}
use Rattle.ep_units.specs.declared.session.Session.{Session}
use Rattle.ep_outside.specs.declared.limits.Limits.{Limits}
use Rattle.ep_history.specs.declared.rev.Rev.{Rev}
use Rattle.ep_history.specs.declared.nop.Nop.{Nop}
use Rattle.ep_history.specs.declared.seat.Seat.{Seat}
use Rattle.ep_history.specs.declared.seat.Why.{Why}
use Rattle.ep_history.specs.declared.seat.Why.TheVariants.{Replaced, Deleted, Left}
use Rattle.ep_history.specs.Lists.{at, numbered, or_else}
use Rattle.ep_history.specs.History.{Birth, first_rev}

-- `epoch` counts the openings. Sessions and births stand in order, numbered from 1.
-- The last birth is there where `present` says so, and anybody may enter it where `public` does.
pub record PadState : Type 0 where
  pub limits : Limits
  pub epoch : ℕ
  pub sessions : List Seat
  pub births : List Birth
  pub present : Bool
  pub public : Bool

-- what stands where there is no birth
abbrev pub no_birth : Birth
no_birth = record { first = first_rev 0 []; later = []; nops = [] }

-- the birth of a number
abbrev pub birth_at : PadState → ℕ → Birth
birth_at pad k = or_else (numbered pad.births k) no_birth

-- the last birth
abbrev pub newest : PadState → Birth
newest pad = birth_at pad (length pad.births)

-- ---- sessions

-- the seat of a session of this opening
abbrev pub seat_of : PadState → Session → Option Seat
seat_of pad s = if s.epoch == pad.epoch then numbered pad.sessions s.count else None

-- a session ends once
abbrev pub first_end : Option Why → Why → Option Why
first_end None why = Some why
first_end (Some old) why = Some old

-- a seat that has ended, for this where it was live
abbrev pub ended : Why → Seat → Seat
ended why l = record l { end = first_end l.end why }

-- the session that the next one to enter gets
abbrev pub next_session : PadState → Session
next_session pad = record { epoch = pad.epoch; count = suc (length pad.sessions) }

-- the seats of an author end as replaced by the next session
abbrev pub replaced : PadState → Text → Seat → Seat
replaced pad author l = if text_eq l.author author then ended (Replaced (next_session pad)) l else l

-- a new session, which ends the older one of its author
abbrev pub with_session : PadState → Text → Bool → PadState
with_session pad author read_only = record pad {
  sessions = map (replaced pad author) pad.sessions ++ record { author = author; read_only = read_only; end = None } ∷ [];
}

-- the seat at a place has left
abbrev pub end_at : ℕ → List Seat → List Seat
end_at i [] = []
end_at zero (l ∷ ls) = ended Left l ∷ ls
end_at (suc i) (l ∷ ls) = l ∷ end_at i ls

-- the seat of a number has left
abbrev pub end_numbered : ℕ → List Seat → List Seat
end_numbered zero ls = ls
end_numbered (suc i) ls = end_at i ls

-- a session leaves
abbrev pub leave : PadState → Session → PadState
leave pad s = record pad { sessions = if s.epoch == pad.epoch then end_numbered s.count pad.sessions else pad.sessions }

-- whether a seat is live
abbrev pub is_live : Seat → Bool
is_live l = not (is_some l.end)

-- how many seats are live
abbrev pub live_count : List Seat → ℕ
live_count [] = 0
live_count (l ∷ ls) = (if is_live l then 1 else 0) + live_count ls

-- whether an author has a live seat
abbrev pub has_live : Text → List Seat → Bool
has_live author [] = false
has_live author (l ∷ ls) = (is_live l && text_eq l.author author) || has_live author ls

-- of two live seats of one author, one is the other
abbrev pub AreSingle : List Seat → Type 0
AreSingle ls = (i j : ℕ) (l m : Seat) → at ls i ≡ Some l → at ls j ≡ Some m → l.end ≡ None → m.end ≡ None → l.author ≡ m.author → i ≡ j

-- ---- births

-- a new birth, which is not public
abbrev pub create : PadState → ℕ → Text → PadState
create pad now text = record pad { births = pad.births ++ record { first = first_rev now text; later = []; nops = [] } ∷ []; present = true; public = false }

-- the last birth is gone, and its sessions end
abbrev pub delete : PadState → PadState
delete pad = record pad { sessions = map (ended (Deleted (length pad.births))) pad.sessions; present = false }

-- who may enter a group's pad
abbrev pub set_public : PadState → Bool → PadState
set_public pad on = record pad { public = on }

-- after a crash: the records stay, and the sessions are of an older opening
abbrev pub reopened : PadState → PadState
reopened pad = record pad { epoch = suc pad.epoch; sessions = [] }

-- the last of some births gets revisions
abbrev pub lengthened : List Rev → List Birth → List Birth
lengthened vs [] = []
lengthened vs (b ∷ []) = record b { later = b.later ++ vs } ∷ []
lengthened vs (b ∷ (c ∷ bs)) = b ∷ lengthened vs (c ∷ bs)

-- the last birth gets revisions
abbrev pub with_revs : PadState → List Rev → PadState
with_revs pad vs = record pad { births = lengthened vs pad.births }

-- the last of some births gets edits that became nothing
abbrev pub noted : List Nop → List Birth → List Birth
noted xs [] = []
noted xs (b ∷ []) = record b { nops = b.nops ++ xs } ∷ []
noted xs (b ∷ (c ∷ bs)) = b ∷ noted xs (c ∷ bs)

-- the last birth gets edits that became nothing
abbrev pub with_nops : PadState → List Nop → PadState
with_nops pad xs = record pad { births = noted xs pad.births }

-- ---- laws

-- no author has two live sessions: who enters ends the older one, and nothing that ends a session makes one live
pub record KeepsSingle (pad : PadState) : Type 0 where
  pub entered : (author : Text) (read_only : Bool) → AreSingle (with_session pad author read_only).sessions
  pub left : (s : Session) → AreSingle (leave pad s).sessions
  pub deleted : AreSingle (delete pad).sessions

abbrev pub EndsOlder : Type 0
EndsOlder = (pad : PadState) → AreSingle pad.sessions → KeepsSingle pad
